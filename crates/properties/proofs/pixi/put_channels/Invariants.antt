use Rattle.std.proofs.Common.{◌*◌, map, take}
use Rattle.octets.specs.Overwrite.{Wrote}
use Rattle.mini.specs.Cut.{joined}
use Rattle.properties.specs.Pixi.{told, component_format, channel_bytes}
use Rattle.properties.proofs.pixi.put_channels.Given as goal

-- as far as the loop has come
abbrev pub invariant-loop-channel : goal.invariant-loop-channel
invariant-loop-channel l =
    Wrote l.fn.out l.at (2 * l.channel-index) (joined (map (channel_bytes (component_format l.format)) (map told (take l.channel-index l.channels)))) l.out l.next

use Rattle.std.proofs.Common.{◌≡◌, ℕ, ◌+◌, ◌*◌, ◌<◌, List, ◌++◌, length, map, take, get_or, arith}
use Rattle.std.proofs.lemmas.Simd.{map-map}
use Rattle.octets.specs.OverwriteLaws.{then}
use Rattle.mini.specs.Cut.{joined, joined_more}
use Rattle.properties.specs.Pixi.{told, component_format, channel_bytes}
use Rattle.properties.specs.declared.Channel as code
use Rattle.properties.proofs.pixi.put_channels.Goals as goal

-- one more channel
more : (format : ℕ) (cs : List code.Channel) (i : ℕ) (d : code.Channel) → i < length cs
    → joined (map (channel_bytes format) (map told (take (i + 1) cs)))
    ≡ joined (map (channel_bytes format) (map told (take i cs))) ++ channel_bytes format (told (get_or cs i d))
more format cs i d h = simp map-map (joined_more (λ c. channel_bytes format (told c)) cs i d h)

pub loop-channel-preserved : goal.loop-channel-preserved
loop-channel-preserved c =
    let i = c.loop-channel.channel-index in
    let e : 2 * (i + 1) ≡ 2 * i + 2 = omega arith in
    rw (e, more (component_format c.args.format) c.args.channels.now i c.channel-item.result c.loop-channel-test.true, ← c.channel-item.is)
    (then c.loop-channel.invariant c.put_channel-next.ensures)

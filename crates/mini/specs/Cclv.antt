-- How long a cclv body is, by its flag byte: `cclv_body_len` of props.rs; document 01, 'The record and its order of bits' ('The cclv length
-- is 1, plus 24 for flag `20`, plus 4 for each of `10`, `08`, `04`').
use Rattle.std.specs.Prelude.{List, ℕ, suc, ◌+◌, ◌*◌, ◌/◌, ◌%◌, get_or}

-- the bytes after the flag byte
unfoldable pub cclv_more : ℕ → ℕ
cclv_more flags = 24 * (flags / 0x20 % 2) + 4 * (flags / 0x10 % 2) + 4 * (flags / 0x08 % 2) + 4 * (flags / 0x04 % 2)

-- the length of a body, whose first byte is the flag byte
abbrev pub cclv_length : List ℕ → ℕ
cclv_length body = suc (cclv_more (get_or body 0 0))

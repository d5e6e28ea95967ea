-- The main picture's colour, `MinimizedImage::cicp`: the explicit values, else those of ISO/IEC 23008-12 Amd 2, Table O.3.
use Rattle.std.specs.Prelude.{Bool, ℕ, eqb, is_some, unwrap_or}
use Rattle.bits.specs.Format.{sized}
use Rattle.mini.specs.declared.Cicp.{Cicp}
use Rattle.mini.specs.declared.MinimizedImage.{MinimizedImage}

-- primaries and transfer 1 and 13, or 2 and 2 beside an ICC profile; matrix 2 for 4:0:0, else 6
abbrev pub table_cicp : Bool → ℕ → Cicp
table_cicp icc subsampling =
    record { primaries = sized icc 2 1; transfer = sized icc 2 13; matrix = sized (eqb subsampling 0) 2 6 }

abbrev pub cicp_of : MinimizedImage → Cicp
cicp_of i = unwrap_or i.explicit_cicp (table_cicp (is_some i.icc) i.chroma.subsampling)

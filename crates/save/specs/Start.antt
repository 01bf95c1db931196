-- Where reading begins to write the list.
use Rattle.std.specs.Prelude.{ℕ, not, cond, eqb}

-- at its first entry; at its end, which is nowhere, where the text is refused
abbrev pub read_from : ℕ → ℕ → ℕ
read_from code len = cond (not (eqb code 0)) len 0

-- What a family is printed as.
use Rattle.std.specs.Prelude.{ℕ, List, ◌++◌, codes}
use Rattle.std.specs.Fmt.{decimal}
use Rattle.family_rules.specs.declared.Family.{Family}
use Rattle.family_rules.specs.declared.Family.TheVariants.{Grid, Billiard, Plane, Levels}

-- its name, and each parameter by its letter
abbrev pub family_text : Family → List ℕ
family_text (Grid s) = codes "grid s=" ++ decimal s
family_text (Billiard q) = codes "billiard q=" ++ decimal q
family_text (Plane p) = codes "plane p=" ++ decimal p
family_text (Levels a b c) = codes "levels a=" ++ decimal a ++ codes " b=" ++ decimal b ++ codes " c=" ++ decimal c

-- Lines as they print, by calculation.
use mathlib.Core.List.{[], ◌∷◌}
use mathlib.Core.Path.{◌≡◌, refl}
use Rattle.model.specs.Sets.{member}
use Rattle.model.specs.Tables.{at}
use Rattle.player_bytes.specs.Decimal.{digits, decimal}
use Rattle.rig_members.specs.Walk.{members_up_to}
use Rattle.plan_lines.specs.Lines.{list_text, sites_text, set_text, set_texts, setup_text, code_text}

-- the sites 1, 2 and 4: `set=1,2,4`
set-11 : set_text 11 ≡ 115 ∷ 101 ∷ 116 ∷ 61 ∷ 49 ∷ 44 ∷ 50 ∷ 44 ∷ 52 ∷ 10 ∷ []
unfolding set_text list_text members_up_to member decimal digits
set-11 = refl

-- the site 31 alone: `set=31`
set-31 : set_text 1073741824 ≡ 115 ∷ 101 ∷ 116 ∷ 61 ∷ 51 ∷ 49 ∷ 10 ∷ []
unfolding set_text list_text members_up_to member decimal digits
set-31 = refl

-- `code=12`
code-12 : code_text 12 ≡ 99 ∷ 111 ∷ 100 ∷ 101 ∷ 61 ∷ 49 ∷ 50 ∷ 10 ∷ []
unfolding code_text decimal digits
code-12 = refl

-- of a buffer with three sets the first two: `sites=2`, `set=1,2`, `set=2`
setup-2 : setup_text 2 (3 ∷ 2 ∷ 7 ∷ []) ≡ 115 ∷ 105 ∷ 116 ∷ 101 ∷ 115 ∷ 61 ∷ 50 ∷ 10 ∷ 115 ∷ 101 ∷ 116 ∷ 61 ∷ 49 ∷ 44 ∷ 50 ∷ 10 ∷ 115 ∷ 101 ∷ 116 ∷ 61 ∷ 50 ∷ 10 ∷ []
unfolding setup_text sites_text set_texts set_text list_text members_up_to member at decimal digits
setup-2 = refl

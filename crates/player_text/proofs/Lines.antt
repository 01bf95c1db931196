-- A line that is not at its place.
use Prim.Native.Nat.{ℕ}
use mathlib.Core.Path.{◌≡◌, refl}
use Rattle.std.specs.Prelude.{Some, None}
use Rattle.player_grammar.specs.declared.Line.{Line}
use Rattle.player_grammar.specs.declared.Line.TheVariants.{Sites, Set, Ask, Leave, Move}
use Rattle.player_text.specs.Player.{size_in, set_in}

pub no_size : (m : Line) → ((n : ℕ) → m ≡ Sites n → ⊥) → size_in (Some m) ≡ None
unfolding size_in
no_size (Sites n) h = absurd (h n refl)
no_size (Set s) h = refl
no_size (Ask s) h = refl
no_size (Leave s) h = refl
no_size (Move a b) h = refl

pub no-set : (m : Line) → ((s : ℕ) → m ≡ Set s → ⊥) → set_in (Some m) ≡ None
unfolding set_in
no-set (Sites n) h = refl
no-set (Set s) h = absurd (h s refl)
no-set (Ask s) h = refl
no-set (Leave s) h = refl
no-set (Move a b) h = refl

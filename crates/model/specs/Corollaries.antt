-- What demand 3 says of the sites one by one, without counting them, and of each arbiter. It follows from demand 3 alone.
use Rattle.std.specs.Prelude.{ℕ, ◌≡◌, true}
use Rattle.model.specs.State.{Stored, size_of, in_range, mode_of, is_inside, is_waiting}
use Rattle.model.specs.Run.{places, Always}

pub record SoundOneByOne (s : Stored) : Type 0 where
  -- two sites inside are one site
  pub one_inside :
      (k l : ℕ) → in_range (size_of s.tables) k ≡ true → in_range (size_of s.tables) l ≡ true →
      is_inside (mode_of s.tables k) ≡ true → is_inside (mode_of s.tables l) ≡ true → k ≡ l
  -- the permission of each arbiter is in one place
  pub each_place : (j : ℕ) → in_range (size_of s.tables) j ≡ true → places s j ≡ 1
  -- where nothing is under way and a site waits, a site is inside
  pub some_inside :
      s.count ≡ 0 → (k : ℕ) → in_range (size_of s.tables) k ≡ true → is_waiting (mode_of s.tables k) ≡ true →
      (l : ℕ) × (in_range (size_of s.tables) l ≡ true) × (is_inside (mode_of s.tables l) ≡ true)

unfoldable pub Corollaries : Type 0
Corollaries = Always SoundOneByOne

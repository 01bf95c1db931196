-- Words one behind the other.
use Prim.Native.Nat.{ℕ}
use mathlib.Core.List.{List, [], ◌∷◌, ◌++◌}
use mathlib.Core.Path.{◌≡◌, refl}
use Rattle.plan_numbers.specs.declared.Given.{Given}
use Rattle.plan_numbers.specs.Given.{with_word, with_words}

-- one word more behind others
pub words_more : (g : Given) (words : List (List ℕ)) (word : List ℕ) → with_words g (words ++ (word ∷ [])) ≡ with_word (with_words g words) word
unfolding with_words
words_more g [] word = refl
words_more g (w ∷ ws) word = words_more (with_word g w) ws word

-- Words that were read one behind the other.
use Prim.Native.Nat.{ℕ, ◌+◌}
use mathlib.Core.List.{[], ◌∷◌, ◌++◌}
use mathlib.Core.Path.{◌≡◌, refl, ◌∙◌}
use lib.ListN.{length-append}
use Rattle.plan_numbers.specs.declared.Given.{Given}
use Rattle.plan_numbers.specs.Given.{nothing_given, with_words}
use Rattle.plan_numbers.proofs.Words.{words_more}
use Rattle.plan_console.specs.Planned.{ReadsWord, ReadsWords}

-- none yet
pub none_read : (g : Given) → g ≡ nothing_given → ReadsWords 0 g
unfolding with_words
none_read g e = record { words = []; counted = refl; read = e }

-- and one more
pub more-read : {n : ℕ} (g h : Given) → ReadsWords n g → ReadsWord g h → ReadsWords (n + 1) h
more-read {n} g h s w = record {
  words = s.words ++ (w.word ∷ []);
  counted = rw (length-append, s.counted);
  read = w.read ∙ rw (s.read, words_more);
}

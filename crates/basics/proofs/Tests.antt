-- Tests as code makes them: where the answer r to a test is no, the function returns at once.
use mathlib.Core.Path.{◌≡◌, sym, ◌∙◌}
use mathlib.Core.Bool.{Bool, true, false, not, ◌&&◌}
use borrow.Author.Tests.{not-true, not-false}

pub failed : {r a : Bool} → r ≡ a → not r ≡ true → a ≡ false
failed e n = sym e ∙ not-true _ n

pub passed : {r a : Bool} → r ≡ a → not r ≡ false → a ≡ true
passed e n = sym e ∙ not-false _ n

-- of two tests the first fails; it passes, and the second decides
pub and-failed : {a : Bool} (b : Bool) → a ≡ false → false ≡ a && b
and-failed b e = rw e

pub and-passed : {a r b : Bool} → a ≡ true → r ≡ b → r ≡ a && b
and-passed e f = rw e f

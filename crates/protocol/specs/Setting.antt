-- What does not change while one arbiter works, and what is assumed of it.
use Rattle.std.specs.Prelude.{ℕ, ◌≤◌, ◌≡◌, ◌≢◌, Bool, true, false}
use Rattle.protocol.specs.Ask.{Ask}

-- how many sites there are, the arbiter, the sites that have it in their request set, and the order of asks. member k says that the
-- arbiter is a member of the set of site k; comes_before a k b l says that the ask a of site k comes before the ask b of site l.
pub record Setting : Type 0 where
  pub size : ℕ
  pub arbiter : ℕ
  pub member : ℕ → Bool
  pub comes_before : Ask → ℕ → Ask → ℕ → Bool

-- The rules below work without these laws; the proofs need them. Of the order nothing is assumed but that it is strict, transitive
-- and total between different sites.
pub record SettingLaw (p : Setting) : Type 0 where
  pub site_in_range : (k : ℕ) → p.member k ≡ true → (1 ≤ k) × (k ≤ p.size)
  pub arbiter_in_range : (k : ℕ) → p.member k ≡ true → (1 ≤ p.arbiter) × (p.arbiter ≤ p.size)
  pub irreflexive : (a : Ask) (x : ℕ) → p.comes_before a x a x ≡ false
  pub transitive : (a : Ask) (x : ℕ) (b : Ask) (y : ℕ) (c : Ask) (z : ℕ) → p.comes_before a x b y ≡ true → p.comes_before b y c z ≡ true → p.comes_before a x c z ≡ true
  pub total : (a : Ask) (x : ℕ) (b : Ask) (y : ℕ) → x ≢ y → p.comes_before a x b y ≡ false → p.comes_before b y a x ≡ true

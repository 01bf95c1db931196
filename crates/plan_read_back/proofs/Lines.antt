-- A printed line read: `sites=` gives back the number, `set=` the set.
use Prim.Native.Nat.{ℕ, zero, suc, ◌+◌, ◌-◌, ◌*◌, ◌/◌, ◌%◌, ◌^◌, ◌≤◌, ◌<◌}
use mathlib.Core.Bool.{true}
use mathlib.Core.List.{List, [], ◌∷◌, ◌++◌, append-nil}
use mathlib.Core.Logic.{◌≢◌}
use Rattle.std.specs.Prelude.{Some}
use Rattle.std.specs.Option.{option_map}
use mathlib.Core.Path.{◌≡◌, refl, sym, ap, ◌∙◌}
use native.Mathlib.Nat.{mod-lt, mod-eq_of_lt}
use native.Mathlib.Omega.{arith}
use borrow.Author.Tests.{eqb-true, eqb-false, le-leb, lt-ltb}
use lib.Bits.{bit_or, or_shifted_r}
use lib.Dec.{ltb}
use lib.ListN.{length}
use lib.Pow.{mod-pow-add, pow_pos}
use Rattle.basics.specs.Helpers.{All}
use Rattle.basics.proofs.Basics.{by_bool, clash, and_split}
use Rattle.basics.proofs.Lists.{all_snoc, all_append, all_map}
use Rattle.rig.specs.Limits.{site_limit}
use Rattle.model.specs.Sets.{member, names}
use Rattle.model.proofs.Sets.{names-empty, names-below}
use Rattle.player_bytes.specs.Decimal.{decimal}
use Rattle.player_bytes.proofs.Digits.{decimal-length}
use Rattle.player_grammar.specs.Grammar.{longer, parts, before, all_numbers, numbers, ascends, site_bit, with_sites, set_line, starts, form, line_limit, meaning_of}
use Rattle.player_grammar.specs.declared.Line.TheVariants.{Sites, Set}
use Rattle.player_grammar.proofs.Lists.{one_number}
use Rattle.rig_members.specs.Walk.{members_up_to}
use Rattle.plan_lines.specs.Lines.{list_text, sites_bytes, set_bytes}
use Rattle.plan_lines.proofs.Lines.{set-bytes-short}
use Rattle.plan_read_back.specs.ReadBack.{SitesRead, SetRead}
use Rattle.plan_read_back.proofs.Numbers.{Lacks, decimal-lacks, number_read}

-- `sites=`
pub sites-read : SitesRead
unfolding meaning_of form starts
sites-read n h =
    rw (le-leb (length (sites_bytes n)) line_limit (omega (arith, decimal-length n)))
    (one_number Sites (decimal n) ∙ ap (option_map Sites) (number_read n h))

-- the parts of bytes: those before the first comma, or all where there is none
parts-comma : (ds bs : List ℕ) → Lacks 44 ds → parts (ds ++ (44 ∷ bs)) ≡ ds ∷ parts bs
unfolding parts longer All
parts-comma [] bs h = refl
parts-comma (d ∷ ds) bs h = rw (h.0, parts-comma ds bs h.1)

parts_last : (ds : List ℕ) → Lacks 44 ds → parts ds ≡ ds ∷ []
unfolding parts longer All
parts_last [] h = refl
parts_last (d ∷ ds) h = rw (h.0, parts_last ds h.1)

numbers-read : (n : ℕ) (ns : List ℕ) → All (λ m. m ≤ 999) (n ∷ ns) → numbers (list_text (n ∷ ns)) ≡ Some (n ∷ ns)
unfolding numbers all_numbers before list_text All
numbers-read n [] h = rw (parts_last (decimal n) (decimal-lacks 44 n (omega arith)), number_read n h.0)
numbers-read n (m ∷ ns) h =
    rw (parts-comma (decimal n) (list_text (m ∷ ns)) (decimal-lacks 44 n (omega arith)), number_read n h.0, numbers-read m ns h.1)

-- the members of a set: the sites 1 to i at most
pub members-within : (set i : ℕ) → All (λ m. m ≤ i) (members_up_to set i)
unfolding members_up_to All
members-within set zero = tt
members-within set (suc i) =
    let lower = all_map (λ m. m ≤ i) (λ m. m ≤ suc i) (members_up_to set i) (λ m l. omega arith) (members-within set i) in
    by_bool (member set (suc i))
    (λ e. rw e (all_snoc (λ m. m ≤ suc i) (members_up_to set i) (suc i) lower (omega arith)))
    (λ e. rw (e, append-nil) lower)

ascends-snoc : (ns : List ℕ) (b : ℕ) → ascends ns ≡ true → All (λ a. a < b) ns → ascends (ns ++ b ∷ []) ≡ true
unfolding ascends All
ascends-snoc [] b h l = refl
ascends-snoc (a ∷ []) b h l = rw (lt-ltb a b l.0)
ascends-snoc (a ∷ c ∷ ns) b h l = let p = and_split (ltb a c) (ascends (c ∷ ns)) h in rw p.0 (ascends-snoc (c ∷ ns) b p.1 l.1)

members-ascend : (set i : ℕ) → ascends (members_up_to set i) ≡ true
unfolding members_up_to ascends
members-ascend set zero = refl
members-ascend set (suc i) =
    by_bool (member set (suc i))
    (λ e. rw e (ascends-snoc (members_up_to set i) (suc i) (members-ascend set i)
    (all_map (λ m. m ≤ i) (λ m. m < suc i) (members_up_to set i) (λ m l. omega arith) (members-within set i))))
    (λ e. rw (e, append-nil) (members-ascend set i))

sites-snoc : (set : ℕ) (ns : List ℕ) (b : ℕ) → with_sites set (ns ++ b ∷ []) ≡ bit_or (with_sites set ns) (site_bit b)
unfolding with_sites
sites-snoc set [] b = refl
sites-snoc set (n ∷ ns) b = sites-snoc (bit_or set (site_bit n)) ns b

-- site i + 1 is bit i
site-bit : (i : ℕ) → i < site_limit → site_bit (suc i) ≡ 2 ^ i
unfolding site_bit
site-bit i h =
    let e : suc i - 1 ≡ i = omega arith in
    rw (le-leb 1 (suc i) (omega arith), le-leb (suc i) site_limit (omega arith), e)

low_bits : (set i : ℕ) → set % 2 ^ suc i ≡ (set / 2 ^ i % 2) * 2 ^ i + set % 2 ^ i
low_bits set i = let e : 1 + i ≡ suc i = omega arith in rw e at (mod-pow-add set 1 i)

with-bit : (low i : ℕ) → low < 2 ^ i → bit_or low (2 ^ i) ≡ 2 ^ i + low
with-bit low i h = let e : 1 * 2 ^ i ≡ 2 ^ i = omega arith in rw e at (or_shifted_r 1 i low h)

members-set : (set i : ℕ) → i ≤ site_limit → with_sites 0 (members_up_to set i) ≡ set % 2 ^ i
unfolding members_up_to with_sites member
members-set set zero h = omega arith
members-set set (suc i) h =
    let ih = members-set set i (omega arith) in
    let low = low_bits set i in
    by_bool (member set (suc i))
    (λ e. let one = eqb-true (set / 2 ^ i % 2) 1 e in
    rw e (sites-snoc 0 (members_up_to set i) (suc i) ∙ rw (ih, site-bit i h) (with-bit (set % 2 ^ i) i (mod-lt set (pow_pos i)) ∙ rw (low, one) (omega arith))))
    (λ e. let none : set / 2 ^ i % 2 ≡ 0 = omega (arith, eqb-false (set / 2 ^ i % 2) 1 e) in
    rw (e, append-nil) (ih ∙ rw (low, none) (omega arith)))

-- a list of members read: the set, where there are any
list_read : (set : ℕ) (ns : List ℕ) → set ≢ 0 → All (λ m. m ≤ 999) ns → ascends ns ≡ true → with_sites 0 ns ≡ set
    → set_line (numbers (list_text ns)) ≡ Some (Set set)
unfolding set_line with_sites
list_read set [] ne small up e = absurd (ne (sym e))
list_read set (n ∷ ns) ne small up e = rw (numbers-read n ns small, up, e)

-- `set=`
pub set-read : SetRead
unfolding meaning_of form starts
set-read set h =
    let ns = members_up_to set site_limit in
    rw (le-leb (length (set_bytes set)) line_limit (set-bytes-short set))
    (list_read set ns (λ z. clash (names site_limit 0) (rw z at h) (names-empty site_limit))
    (all_map (λ m. m ≤ site_limit) (λ m. m ≤ 999) ns (λ m l. omega arith) (members-within set site_limit))
    (members-ascend set site_limit)
    (members-set set site_limit (omega arith) ∙ mod-eq_of_lt (names-below site_limit set h)))

-- Neither line has a byte 10.
pub list-one-line : (ns : List ℕ) → Lacks 10 (list_text ns)
unfolding list_text All
list-one-line [] = tt
list-one-line (n ∷ []) = decimal-lacks 10 n (omega arith)
list-one-line (n ∷ m ∷ ns) = all_append _ (decimal n) (44 ∷ list_text (m ∷ ns)) (decimal-lacks 10 n (omega arith)) (refl, list-one-line (m ∷ ns))

pub sites-one-line : (n : ℕ) → Lacks 10 (sites_bytes n)
unfolding All
sites-one-line n = (refl, (refl, (refl, (refl, (refl, (refl, decimal-lacks 10 n (omega arith)))))))

pub set-one-line : (set : ℕ) → Lacks 10 (set_bytes set)
unfolding All
set-one-line set = (refl, (refl, (refl, (refl, list-one-line (members_up_to set site_limit)))))

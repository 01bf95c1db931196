-- From the definitions' tables and messages to the state of the abstract machine (crate protocol), whose tables are functions of a
-- site's number: what each part is there, and what it is once one site has another desk.
use Prim.Native.Nat.{ℕ, ◌≤◌}
use mathlib.Core.Path.{◌≡◌, refl, sym, ◌∙◌, ap, fun_ext}
use mathlib.Core.Logic.{◌≢◌}
use mathlib.Core.Bool.{Bool, cond}
use mathlib.Core.List.{List, [], map}
use native.Mathlib.Omega.{arith}
use lib.Dec.{eqb}
use lib.ListN.{length}
use borrow.Author.Tests.{eqb-true, eqb-false}
use Rattle.rig.specs.declared.Arbiter.{Arbiter}
use Rattle.rig.specs.declared.Desk.{Desk}
use Rattle.rig.specs.declared.Message.{Message}
use Rattle.rig.specs.declared.Mode.{Mode}
use Rattle.rig.specs.declared.Mode.TheVariants.{Rest, Waiting, Inside}
use Rattle.rig.specs.declared.Site.{Site}
use Rattle.rig.specs.Limits.{site_limit}
use Rattle.rig.specs.Messages.{REQUEST, REPLY, RELEASE, INQUIRE, FAIL, YIELD}
use Rattle.basics.specs.Helpers.{update}
use Rattle.protocol.specs.Ask.{Ask, ask_with}
use Rattle.protocol.specs.Message as M
use Rattle.protocol.specs.Local.{Local}
use Rattle.protocol.specs.System.{System}
use Rattle.protocol.specs.Rig as R
use Rattle.model.specs.Tables.{at, cell}
use Rattle.model.specs.State.{Tables, is_resting, is_waiting, is_inside, seq_in, failed_in, size_of, sets_of, site_of, mode_of, arbiter_of, held_of, heir_of, inquired_of, queued_of, desk_of, with_desk}
use Rattle.basics.proofs.Basics.{by_bool}
use Rattle.model.proofs.Tables.{at-put, at-put-same, at-put-other, cell-put, length-put, Square, square-put}
use Rattle.model.proofs.Lawful.{system_from}

abbrev pub mode_number : Mode → ℕ
mode_number Rest = 0
mode_number (Waiting s f) = 1
mode_number Inside = 2

-- the ask of a site in that mode
abbrev pub ask_in : Mode → Ask
ask_in m = ask_with (seq_in m)

abbrev pub system_of : Tables → System
system_of t = system_from (size_of t) (sets_of t)

abbrev pub sites_of : Tables → R.Sites
sites_of t = record { mode = λ k. mode_number (mode_of t k); ask = λ k. ask_in (mode_of t k); failed = λ k. failed_in (mode_of t k) }

abbrev pub row_of : Tables → ℕ → R.Row
row_of t j = record {
  grant = (arbiter_of t j).grant;
  holder = (arbiter_of t j).holder;
  holder_ask = ask_with (arbiter_of t j).seq;
  queued = λ k. ask_with (queued_of t j k);
  held = λ k. held_of t k j;
  heir = λ k. heir_of t k j;
  inquired = λ k. inquired_of t k j;
}

-- a message with the arbiter that it belongs to: a release that names an heir is a hand-over
abbrev pub sent_of : Message → R.Sent
sent_of m =
    cond (eqb m.kind REQUEST) (R.sent m.to (M.request m.from (ask_with m.number)))
    (cond (eqb m.kind REPLY) (R.sent m.about (M.reply m.from m.to m.number))
    (cond (eqb m.kind RELEASE) (R.sent m.to (cond (eqb m.about 0) (M.release m.from m.number) (M.hand_over m.from m.about m.number)))
    (cond (eqb m.kind INQUIRE) (R.sent m.from (M.inquire m.to m.number))
    (cond (eqb m.kind FAIL) (R.sent m.from (M.fail m.to m.number))
    (cond (eqb m.kind YIELD) (R.sent m.to (M.yield m.from m.number))
    (R.sent m.from (M.transfer m.to m.about m.number)))))))

abbrev pub rig_of : Tables → List Message → R.Rig
rig_of t ms = record { sites = sites_of t; clock = λ k. (site_of t k).clock; rows = λ j. row_of t j; under_way = map sent_of ms }

-- arbiter j's part
abbrev pub local_at : Tables → ℕ → Local
local_at t j = R.local_of (sites_of t) (row_of t j)

-- Every table is as large as the site limit says.
pub record Sized (t : Tables) : Type 0 where
  pub size : size_of t ≤ site_limit
  pub sets : length t.rig.sets ≡ site_limit
  pub sites : length t.rig.sites ≡ site_limit
  pub arbiters : length t.rig.arbiters ≡ site_limit
  pub held : Square site_limit t.held
  pub heir : Square site_limit t.heir
  pub inquired : Square site_limit t.inquired
  pub queued : Square site_limit t.queued

-- and so is every row of a desk
pub record DeskSized (d : Desk) : Type 0 where
  pub held : length d.held ≡ site_limit
  pub heir : length d.heir ≡ site_limit
  pub inquired : length d.inquired ≡ site_limit
  pub queued : length d.queued ≡ site_limit

pub desk-sized : (t : Tables) (s : ℕ) → Sized t → 1 ≤ s → s ≤ site_limit → DeskSized (desk_of t s)
unfolding desk_of
desk-sized t s z lo hi = record { held = z.held.columns s lo hi; heir = z.heir.columns s lo hi; inquired = z.inquired.columns s lo hi; queued = z.queued.columns s lo hi }

pub sized-desk : (t : Tables) (s : ℕ) (d : Desk) → Sized t → DeskSized d → 1 ≤ s → s ≤ site_limit → Sized (with_desk t s d)
unfolding with_desk
sized-desk t s d z y lo hi = record {
  size = z.size;
  sets = z.sets;
  sites = length-put t.rig.sites s d.site ∙ z.sites;
  arbiters = length-put t.rig.arbiters s d.arbiter ∙ z.arbiters;
  held = square-put site_limit t.held s d.held z.held lo hi y.held;
  heir = square-put site_limit t.heir s d.heir z.heir lo hi y.heir;
  inquired = square-put site_limit t.inquired s d.inquired z.inquired lo hi y.inquired;
  queued = square-put site_limit t.queued s d.queued z.queued lo hi y.queued;
}

-- Tests of modes

pub rests-same : (m : Mode) → eqb (mode_number m) 0 ≡ is_resting m
rests-same Rest = refl
rests-same (Waiting s f) = refl
rests-same Inside = refl

pub waits-same : (m : Mode) → eqb (mode_number m) 1 ≡ is_waiting m
waits-same Rest = refl
waits-same (Waiting s f) = refl
waits-same Inside = refl

pub inside-same : (m : Mode) → eqb (mode_number m) 2 ≡ is_inside m
inside-same Rest = refl
inside-same (Waiting s f) = refl
inside-same Inside = refl

-- Equal part by part

pub rig-path : {s s' : R.Sites} {c c' : ℕ → ℕ} {r r' : ℕ → R.Row} {m m' : List R.Sent} → s ≡ s' → c ≡ c' → r ≡ r' → m ≡ m'
    → ◌≡◌ {A = R.Rig} (record { sites = s; clock = c; rows = r; under_way = m }) (record { sites = s'; clock = c'; rows = r'; under_way = m' })
rig-path p q u v = λ i. record { sites = p i; clock = q i; rows = u i; under_way = v i }

pub sites-path : {m m' : ℕ → ℕ} {n n' : ℕ → Ask} {f f' : ℕ → Bool} → m ≡ m' → n ≡ n' → f ≡ f'
    → ◌≡◌ {A = R.Sites} (record { mode = m; ask = n; failed = f }) (record { mode = m'; ask = n'; failed = f' })
sites-path p q u = λ i. record { mode = p i; ask = q i; failed = u i }

-- one row, from what the tables say
pub row-path : (t : Tables) (j : ℕ) (a : Arbiter) (q he hr iq : ℕ → ℕ) → arbiter_of t j ≡ a → ((k : ℕ) → queued_of t j k ≡ q k) → ((k : ℕ) → held_of t k j ≡ he k) → ((k : ℕ) → heir_of t k j ≡ hr k) → ((k : ℕ) → inquired_of t k j ≡ iq k)
    → row_of t j ≡ record { grant = a.grant; holder = a.holder; holder_ask = ask_with a.seq; queued = λ k. ask_with (q k); held = he; heir = hr; inquired = iq }
row-path t j a q he hr iq pa pq ph pr pi = λ i. record { grant = (pa i).grant; holder = (pa i).holder; holder_ask = ask_with (pa i).seq; queued = λ k. ask_with (pq k i); held = λ k. ph k i; heir = λ k. pr k i; inquired = λ k. pi k i }

pub update_self : {A : Type 0} (f : ℕ → A) (b : ℕ) (v : A) → f b ≡ v → update f b v ≡ f
unfolding update
update_self f b v e = fun_ext (λ j. by_bool (eqb j b) (λ h. rw (h, eqb-true j b h) (sym e)) (λ h. rw h))

-- The machine's state once site b has the desk d

-- the sites' part
abbrev pub sites_with : Tables → ℕ → Mode → R.Sites
sites_with t b m = record { mode = update (λ k. mode_number (mode_of t k)) b (mode_number m); ask = update (λ k. ask_in (mode_of t k)) b (ask_in m); failed = update (λ k. failed_in (mode_of t k)) b (failed_in m) }

abbrev pub clock_with : Tables → ℕ → ℕ → ℕ → ℕ
clock_with t b c = update (λ k. (site_of t k).clock) b c

-- the row of an arbiter other than b, and that of b: what the sites have for it changes at b alone
abbrev pub other_row : Tables → ℕ → Desk → ℕ → R.Row
other_row t b d j = record {
  grant = (arbiter_of t j).grant;
  holder = (arbiter_of t j).holder;
  holder_ask = ask_with (arbiter_of t j).seq;
  queued = λ k. ask_with (queued_of t j k);
  held = update (λ k. held_of t k j) b (at 0 d.held j);
  heir = update (λ k. heir_of t k j) b (at 0 d.heir j);
  inquired = update (λ k. inquired_of t k j) b (at 0 d.inquired j);
}

abbrev pub own_row : Tables → ℕ → Desk → R.Row
own_row t b d = record {
  grant = d.arbiter.grant;
  holder = d.arbiter.holder;
  holder_ask = ask_with d.arbiter.seq;
  queued = λ k. ask_with (at 0 d.queued k);
  held = update (λ k. held_of t k b) b (at 0 d.held b);
  heir = update (λ k. heir_of t k b) b (at 0 d.heir b);
  inquired = update (λ k. inquired_of t k b) b (at 0 d.inquired b);
}

module _ (t : Tables) (z : Sized t) (b : ℕ) (lo : 1 ≤ b) (hi : b ≤ site_limit) (d : Desk) where
  -- anything read of a site
  site-with : {A : Type 0} (f : Site → A) → ◌≡◌ {A = ℕ → A} (λ k. f (site_of (with_desk t b d) k)) (update (λ k. f (site_of t k)) b (f d.site))
  unfolding with_desk update
  site-with f = fun_ext (λ k. ap f (at-put _ t.rig.sites b d.site lo (omega (arith, z.sites)) k) ∙ by_bool (eqb k b) (λ e. rw e) (λ e. rw e))

  row_other : (j : ℕ) → j ≢ b → row_of (with_desk t b d) j ≡ other_row t b d j
  unfolding with_desk cell
  row_other j ne =
      row-path (with_desk t b d) j (arbiter_of t j) (λ k. queued_of t j k) _ _ _
      (at-put-other _ t.rig.arbiters b d.arbiter j ne)
      (λ k. rw (at-put-other [] t.queued b d.queued j ne))
      (cell-put t.held b d.held lo (omega (arith, z.held.rows)) j)
      (cell-put t.heir b d.heir lo (omega (arith, z.heir.rows)) j)
      (cell-put t.inquired b d.inquired lo (omega (arith, z.inquired.rows)) j)

  row-own : row_of (with_desk t b d) b ≡ own_row t b d
  unfolding with_desk cell
  row-own =
      row-path (with_desk t b d) b d.arbiter (λ k. at 0 d.queued k) _ _ _
      (at-put-same _ t.rig.arbiters b d.arbiter lo (omega (arith, z.arbiters)))
      (λ k. rw (at-put-same [] t.queued b d.queued lo (omega (arith, z.queued.rows))))
      (cell-put t.held b d.held lo (omega (arith, z.held.rows)) b)
      (cell-put t.heir b d.heir lo (omega (arith, z.heir.rows)) b)
      (cell-put t.inquired b d.inquired lo (omega (arith, z.inquired.rows)) b)

  -- all of it, from what the rows come to
  pub rig-with : (rows : ℕ → R.Row) (ms : List Message) → ((j : ℕ) → j ≢ b → other_row t b d j ≡ rows j) → own_row t b d ≡ rows b
      → rig_of (with_desk t b d) ms ≡ record { sites = sites_with t b d.site.mode; clock = clock_with t b d.site.clock; rows = rows; under_way = map sent_of ms }
  rig-with rows ms other own =
      rig-path
      (sites-path (site-with (λ (x : Site). mode_number x.mode)) (site-with (λ (x : Site). ask_in x.mode)) (site-with (λ (x : Site). failed_in x.mode)))
      (site-with (λ (x : Site). x.clock))
      (fun_ext (λ j. by_bool (eqb j b)
      (λ e. let q = eqb-true j b e in rw q (row-own ∙ own))
      (λ e. let ne = eqb-false j b e in row_other j ne ∙ other j ne)))
      refl

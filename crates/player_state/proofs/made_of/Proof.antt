-- `made_of`: a walk of its MIR by hand. The struct is put together of what its parameters' cells hold.
use Prim.Native.Nat.{ℕ}
use mathlib.Core.Path.{refl}
use mathlib.Core.List.{List, [], ◌∷◌}
use mir.Syntax.{w64}
use base.Fml.{ftrue}
use types.Kit.{‵, raw, ◌$◌, ◌∵◌, !, qed, drop, join, suffices, done}
use types.Part.{agg}
use types.Run.{enter, no_more, and_then, returns}
use types.ByLocal.{alloc_all, pass_all, free_all, look_at, get, sets}
use denote.Builtin.{u8, u64, usize, ArrayOf}
use denote.Exit.{yes}
use denote.Laws.{Is}
use denote.Plain.{uint_vals, uint_Tells}
use denote.Signature.{plain, Slot}
use denote.Steps.{nothing, owned, only}
use denote.Struct.Laws as LL
use denote.Triple.Entry.{on_entry}
use denote.Triple.Walked.{Stays, stay_dropped, walk_of, says, Goes-dropped, ends_at}
use Rattle.std.proofs.raw_atomic.Walks.{proved}
use Rattle.player_text.specs.contracts.Player as Y
use Rattle.player_text.proofs.Player.TheLaws as Y'
use Rattle.player_state.specs.declared.Playing.{Playing}
use Rattle.player_state.specs.contracts.Playing as P
use Rattle.player_state.proofs.Playing.TheLaws as P'
use Rattle.player_state.specs.contracts.made_of as f
use Rattle.player_state.proofs.made_of.Statement.{statement}
use Rattle.player_state.proofs.made_of.Code as code

-- the slots of the tables, the rows and the bytes
abbrev tabs : Slot 0
tabs = ArrayOf (ArrayOf (ArrayOf (plain (λ _. u64)) (λ _. tt) 31) (λ _. tt) 31) (λ _. tt) 4

abbrev rows : Slot 0
rows = ArrayOf (ArrayOf (plain (λ _. u64)) (λ _. tt) 5) (λ _. tt) 1024

abbrev bytes : Slot 0
bytes = ArrayOf (plain (λ _. u8)) (λ _. tt) 97

-- nothing is had of a parameter at exit
abbrev stayed : Stays f.ended.signature.params f.ended.kept
stayed = (stay_dropped _ yes, (stay_dropped _ yes, (stay_dropped _ yes, (stay_dropped _ yes, (stay_dropped _ yes, tt)))))

pub made_of_spec : {M : Type 1} → statement M
made_of_spec 𝓤 𝓛 𝓜 𝓡 wired =
    let c = f.clauses 𝓛 𝓜.mem 𝓡.returns in
    let W = walk_of 𝓛 f.ended stayed c in
    let ps = LL.vals Y.the_type Y'.the_laws in
    let ts = λ (x : List (List (List ℕ))). (P'.the_laws).1.0.val x ∷ [] in
    let rs = λ (x : List (List ℕ)). (P'.the_laws).1.1.0.val x ∷ [] in
    let bs = λ (x : List ℕ). (P'.the_laws).1.1.1.0.val x ∷ [] in
    proved 𝓛 f.ended stayed c 𝓜 𝓡 (
      Goes-dropped 𝓛 0 (plain (λ _. Y.the_row)) yes (λ κs x w. refl),
      (
        Goes-dropped 𝓛 0 tabs yes (λ κs x w. refl),
        (
          Goes-dropped 𝓛 0 rows yes (λ κs x w. refl),
          (
            Goes-dropped 𝓛 0 bytes yes (λ κs x w. refl),
            (Goes-dropped 𝓛 0 (plain (λ _. usize)) yes (λ κs x w. refl), tt),
          ),
        ),
      ),
    )
    f.Key.name code.function (code.unfolded 𝓤 𝓛.H 𝓜 𝓡 wired)
    (λ κs. (ps, (ts, (rs, (bs, (uint_vals w64, tt))))))
    (λ κs. (LL.tells Y.the_type Y'.the_laws, ((P'.the_laws).1.0.tells, ((P'.the_laws).1.1.0.tells, ((P'.the_laws).1.1.1.0.tells, (uint_Tells w64, tt))))))
    (λ κs qs bounds a _ are.
    let s : Playing = record { player = a.0; tables = a.1.0; list = a.1.1.0; line = a.1.1.1.0; held = a.1.1.1.1.0 } in
    let vs = LL.vals P.the_type P'.the_laws s in
    let is : Is P.the_row s vs = LL.owes P.the_type P'.the_laws s (are.0, (are.1.0, (are.1.1.0, (are.1.1.1.0, (are.1.1.1.1.0, tt))))) in
    let y : W.Ghost = ((κs, qs, bounds, a, (ps a.0, (ts a.1.0, (rs a.1.1.0, (bs a.1.1.1.0, (uint_vals w64 a.1.1.1.1.0, tt)))))), tt) in
    qed 𝓛 (raw (on_entry 𝓛 f.signature κs qs a y.0.4) ∷ ‵ ftrue ∷ []) ∵ drop ! $ drop ! $ enter ! _ _ _ _ _ $
    alloc_all ! (λ l. pass_all ! refl (
      ((LL.lawful Y.the_type Y'.the_laws 𝓛).typed a.0 _ are.0).0,
      (
        (((P'.the_laws).1.0.lawful 𝓛).typed a.1.0 _ are.1.0).0,
        (
          (((P'.the_laws).1.1.0.lawful 𝓛).typed a.1.1.0 _ are.1.1.0).0,
          ((((P'.the_laws).1.1.1.0.lawful 𝓛).typed a.1.1.1.0 _ are.1.1.1.0).0, ((tt, record { fits = are.1.1.1.1.0.1 }), tt)),
        ),
      ),
    ) $
    sets ! (agg ! (and_then ! (get ! refl) (and_then ! (get ! refl) (and_then ! (get ! refl) (and_then ! (get ! refl) (and_then ! (get ! refl) (no_more !))))))) refl ((LL.lawful P.the_type P'.the_laws 𝓛).typed s vs is).0 $
    returns ! (look_at ! 0 refl) $ free_all ! refl $
    suffices ! _ (ends_at 𝓛 f.ended stayed c y (only vs) s (tt, (tt, (tt, (tt, (tt, tt))))) (tt, (tt, (tt, (tt, (tt, tt)))))) $ says ! refl $
    owned ! P.the_row _ (LL.makes P.the_type P'.the_plain 𝓛) s _ is $
    nothing ! $ nothing ! $ join ! $ nothing ! $ join ! $ nothing ! $ join ! $ nothing ! $ join ! $ nothing ! $ join ! $ nothing ! $ done !))

-- `tables_of`: a walk of its MIR by hand. The field is read from the struct's cell.
use mathlib.Core.Path.{refl}
use mathlib.Core.List.{[], ◌∷◌}
use base.Fml.{ftrue}
use types.Kit.{‵, raw, ◌$◌, ◌∵◌, !, qed, drop, join, suffices, done}
use types.Part.{whole, sub}
use types.Run.{enter, of_opd, fld, stop, returns}
use types.ByLocal.{alloc_all, pass_all, free_all, look_at, get_in, sets}
use denote.Builtin.{Array, u64}
use denote.Exit.{yes}
use denote.Laws.{Is}
use denote.Signature.{plain}
use denote.Steps.{nothing, owned}
use denote.RattleType.{RattleType}
use denote.Shadow.{makes_shadow}
use denote.Struct.Laws as LL
use denote.Triple.Entry.{on_entry}
use denote.Triple.Walked.{Stays, stay_dropped, walk_of, says, Goes-dropped, ends_at}
use Rattle.std.proofs.raw_atomic.Walks.{proved}
use Rattle.player_state.specs.contracts.Playing as P
use Rattle.player_state.proofs.Playing.TheLaws as P'
use Rattle.player_state.specs.contracts.tables_of as f
use Rattle.player_state.proofs.tables_of.Statement.{statement}
use Rattle.player_state.proofs.tables_of.Code as code

-- the tables
abbrev Tabs : RattleType
Tabs = Array (Array (Array u64 tt 31) tt 31) tt 4

-- nothing is had of the struct at exit
abbrev stayed : Stays f.ended.signature.params f.ended.kept
stayed = (stay_dropped _ yes, tt)

pub tables_of_spec : {M : Type 1} → statement M
tables_of_spec 𝓤 𝓛 𝓜 𝓡 wired =
    let c = f.clauses 𝓛 𝓜.mem 𝓡.returns in
    let W = walk_of 𝓛 f.ended stayed c in
    let vals = LL.vals P.the_type P'.the_laws in
    proved 𝓛 f.ended stayed c 𝓜 𝓡
    (Goes-dropped 𝓛 0 (plain (λ _. P.the_row)) yes (λ κs x w. refl), tt)
    f.Key.name code.function (code.unfolded 𝓤 𝓛.H 𝓜 𝓡 wired)
    (λ κs. (vals, tt)) (λ κs. (LL.tells P.the_type P'.the_laws, tt)) (λ κs qs bounds a _ are.
    let s = a.0 in
    let T = P'.the_laws in
    let is = (LL.owed P.the_type P'.the_laws s (vals s) are.0).1.0 in
    let y : W.Ghost = ((κs, qs, bounds, a, (vals s, tt)), tt) in
    qed 𝓛 (raw (on_entry 𝓛 f.signature κs qs a y.0.4) ∷ ‵ ftrue ∷ []) ∵ drop ! $ drop ! $ enter ! _ _ _ _ _ $
    alloc_all ! (λ l. pass_all ! refl (((LL.lawful P.the_type P'.the_laws 𝓛).typed s _ are.0).0, tt) $
    sets ! (of_opd ! (get_in ! (fld ! refl (stop !)) (sub ! 1 refl (whole !)))) refl ((T.1.0.lawful 𝓛).typed s.tables _ is).0 $
    returns ! (look_at ! 0 refl) $ free_all ! refl $
    suffices ! _ (ends_at 𝓛 f.ended stayed c y (T.1.0.val s.tables) s.tables (tt, tt) (tt, tt)) $ says ! refl $
    owned ! Tabs (Is Tabs) (λ xs vs. makes_shadow 𝓛 (Tabs.own_val xs vs) ((P'.the_plain).1.0 xs vs)) s.tables _ is $
    nothing ! $ nothing ! $ join ! $ nothing ! $ done !))

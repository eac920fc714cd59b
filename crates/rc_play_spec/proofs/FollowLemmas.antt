-- The items of a play lead to its end.
use Rattle.std.proofs.Common.{◌≡◌, ℕ, zero, suc, ◌<◌, nat_lt, List, map, length, Option, Some, None, refl, sym, ap, ◌∙◌, subst}
use Rattle.std.specs.List.{AllByRecursion}
use Rattle.std.specs.Prelude.{All, option_map}
use Rattle.std.proofs.lemmas.Bool.{lt-ltb, cond-true}
use Rattle.std.proofs.lemmas.List.Elements.{recursion_from_All}
use Rattle.rc_base.specs.Transcript.{Pick, done, limit}
use Rattle.rc_play_spec.specs.Control.{Control}
use Rattle.rc_play_spec.specs.Table.{Table}
use Rattle.rc_play_spec.specs.About.{About, menu_at}
use Rattle.rc_play_spec.specs.Effects.{Dealing}
use Rattle.rc_play_spec.specs.Step.{Config, Stop, decide, is_done, is_limit, start}
use Rattle.rc_play_spec.specs.Stop.{Stopped, stop_of}
use Rattle.rc_play_spec.specs.Decision.{choose}
use Rattle.rc_play_spec.specs.Play.{Chooser, Played, ended, with_pick, from_stop, pick_at, stop_behind, follow, reached, played_on, played}
use Rattle.rc_play_spec.specs.Fits.{IsEnd}

-- a pick of an item that the menu has
abbrev IsItem : Pick → Type 0
IsItem pick = pick.item < pick.size

-- what a function of what is there gives comes from something
pub mapped : {A B : Type 0} (f : A → B) (o : Option A) (b : B) → option_map f o ≡ Some b → (a : A) × (o ≡ Some a) × (f a ≡ b)
mapped f None b is = absurd (cc)
mapped f (Some a) b is = (a, refl, cc)

module _ {S : Type 0} (about : About) (dealing : Dealing S) (chooser : Chooser S)
    (keeps : (seat site : ℕ) (table : Table) (control : Control) (k : S) → (chooser seat site table control k).1 ≡ k) where
  -- the picks of a play lead from here to its end
  abbrev Leads : (List ℕ → Option (Stopped S)) → Played S → Type 0
  Leads leads p = AllByRecursion IsItem p.picks → (at : Stopped S) × (leads (map (λ pick. pick.item) p.picks) ≡ Some at) × IsEnd p at

  leads_behind : (more : ℕ) (o : Option (Stopped S)) (p : Played S) →
      ((stop : Stop) (c : Config) (k : S) → played_on about dealing chooser more stop c k ≡ Some p → Leads (λ items. follow about dealing items stop c k) p) →
      from_stop (played_on about dealing chooser more) o ≡ Some p → Leads (λ items. from_stop (follow about dealing items) o) p
  leads_behind more None p rest is = absurd (cc)
  leads_behind more (Some at) p rest is = rest at.stop at.config at.dealer is

  leads : (more : ℕ) (stop : Stop) (c : Config) (k : S) (p : Played S) → played_on about dealing chooser more stop c k ≡ Some p →
      Leads (λ items. follow about dealing items stop c k) p
  leads more is_done c k p is =
      let same : ended done c k ≡ p = cc in
      subst (Leads (λ items. follow about dealing items is_done c k)) same (λ all. (_, refl, record { stop = refl; table = refl; control = refl; dealer = refl }))
  leads more is_limit c k p is =
      let same : ended limit c k ≡ p = cc in
      subst (Leads (λ items. follow about dealing items is_limit c k)) same (λ all. (_, refl, record { stop = refl; table = refl; control = refl; dealer = refl }))
  leads zero (decide seat site) c k p is = absurd (cc)
  leads (suc more) (decide seat site) c k p is =
      let chosen = chooser seat site c.table c.control k in
      let pick = pick_at about seat site chosen.0 c in
      let kept = keeps seat site c.table c.control k in
      let behind = mapped (with_pick pick) (from_stop (played_on about dealing chooser more) (stop_behind about dealing (choose about dealing chosen.1 chosen.0 c))) p is in
      let q = behind.0 in
      let rest = leads_behind more (stop_behind about dealing (choose about dealing chosen.1 chosen.0 c)) q (λ stop c k. leads more stop c k q) behind.1 in
      subst (Leads (λ items. follow about dealing items (decide seat site) c k)) behind.2 (λ all.
      let end = rest all.1 in (
        end.0,
        cond-true (nat_lt chosen.0 (length (menu_at about site c.table c.control))) _ _ (lt-ltb chosen.0 (length (menu_at about site c.table c.control)) all.0)
            ∙ ap (λ k'. from_stop (follow about dealing (map (λ pick. pick.item) q.picks)) (stop_behind about dealing (choose about dealing k' chosen.0 c))) (sym kept)
            ∙ end.1,
        record { stop = end.2.stop; table = end.2.table; control = end.2.control; dealer = end.2.dealer },
      ))

  pub play_leads : (k : S) (p : Played S) → played about dealing chooser k ≡ Some p → All IsItem p.picks →
      (at : Stopped S) × (reached about dealing (map (λ pick. pick.item) p.picks) k ≡ Some at) × IsEnd p at
  play_leads k p is all =
      leads_behind about.turns (stop_of about dealing k (start about)) p (λ stop c k. leads about.turns stop c k p) is
      (recursion_from_All IsItem p.picks all)

-- What the choices of a match bind, noted from choice to choice.
use Rattle.std.proofs.Common.{◌≡◌, ℕ, suc, ◌<◌, Bool, true, false, List, [], ◌∷◌, ◌++◌, length, map, Option, Some, None, refl, sym, ap, ◌∙◌, append_assoc, append-nil, arith}
use Rattle.std.specs.Prelude.{unwrap_or}
use Rattle.std.proofs.lemmas.List.{length-map, map-append}
use Rattle.rc_base.specs.Transcript.{Pick, Record}
use Rattle.rc_sheet_spec.specs.Sight.{IsInSight}
use Rattle.rc_sheet_spec.specs.WellFormed.{IsWellFormed}
use Rattle.rc_play_spec.specs.About.{About}
use Rattle.rc_play_spec.specs.Step.{Config, Stop, decide, is_done, is_limit}
use Rattle.rc_play_spec.specs.Stop.{Stopped}
use Rattle.rc_play_spec.specs.Play.{items_of, reached}
use Rattle.rc_play_spec.specs.Shape.{shape_of}
use Rattle.rc_play_spec.specs.ItemBounds.{Bound, bounds_at}
use Rattle.rc_play_spec.specs.Plan.{Plan, deal_at}
use Rattle.rc_play_spec.specs.Keyed.{dealing_of, reached_in}
use Rattle.rc_play_spec.proofs.ChoiceLemmas.{choice-lt}
use Rattle.rc_play_spec.proofs.FollowLemmas.{mapped}
use Rattle.rc_play_spec.specs.Along.{next_stop as stop_behind_pick, marks_from}
use Rattle.rc_play_spec.specs.Judged.{play_after}
use Rattle.rc_play_spec.specs.Naming.{marks_there}
use Rattle.rc_play_spec.proofs.GoesOn.{reached_append}
use Rattle.rc_rules.specs.Machine.{menu_here}
use Rattle.rc_redraw.specs.Need.{IsNeed}
use Rattle.rc_match.specs.Lane.{Phase, ready, asks, missed, holds, over, spent, MatchLane, pick_here, noted, next_stop, need_at, notes_at, lane_at, stepped}
use Rattle.rc_match.specs.Sound.{IsSound}
use Rattle.rc_match.specs.Chosen.{Chosen}
use Rattle.rc_match.specs.Named.{noted_here, noted_in}
use Rattle.rc_match.proofs.WayLemmas.{lane_on, decision_there}

-- what is chosen is an item of the menu
pub chosen_offered : (about : About) (plan : Plan) (m seat : ℕ) (c : Config) (item : ℕ) → IsNeed (need_at about plan m seat c) →
    Chosen (asks (need_at about plan m seat c)) (Some item) → item < length (menu_here about c)
chosen_offered about plan m seat c item is chosen =
    let need = need_at about plan m seat c in
    let below = choice-lt need.about need.strategy need.seed need.view is.decision.some in
    let size = is.menu in
    omega (arith, chosen, below, size)

-- ---- one choice more

module _ (about : About) (plan : Plan) (m : ℕ) where
  abbrev Marks : Option (Stopped ℕ) → List Pick → List (List Bound)
  Marks = marks_from about dealing_of plan m

  abbrev After : List Pick → Option (Stopped ℕ)
  After = play_after about dealing_of plan m

  next_play : (front : List Pick) (p : Pick) → stop_behind_pick about dealing_of plan m (After front) p ≡ After (front ++ p ∷ [])
  next_play front p =
      sym (ap (λ items. reached about (dealing_of (deal_at plan m).deal) items 0) (map-append (λ (p : Pick). p.item) front (p ∷ []))
      ∙ reached_append about (dealing_of (deal_at plan m).deal) (items_of front) (p.item ∷ []) 0)

  marks_more : (front picks : List Pick) (p : Pick) →
      Marks (After front) (picks ++ p ∷ []) ≡ Marks (After front) picks ++ marks_there about (After (front ++ picks)) p ∷ []
  marks_more front [] p = ap (λ ps. marks_there about (After ps) p ∷ []) (sym (append-nil front))
  marks_more front (q ∷ picks) p =
      ap (λ rest. marks_there about (After front) q ∷ rest)
      (ap (λ at. Marks at (picks ++ p ∷ [])) (next_play front q) ∙ marks_more (front ++ q ∷ []) picks p
      ∙ ap (λ at. Marks at picks ++ marks_there about (After ((front ++ q ∷ []) ++ picks)) p ∷ []) (sym (next_play front q))
      ∙ ap (λ ps. Marks (stop_behind_pick about dealing_of plan m (After front) q) picks ++ marks_there about (After ps) p ∷ []) (append_assoc front (q ∷ []) picks))

  noted_at_decision : (named : Bool) (picks : List Pick) (c : Config) (k seat site item : ℕ) →
      reached_in about plan m (items_of picks) ≡ Some (record { stop = decide seat site; config = c; dealer = k }) → c.control.site ≡ Some site →
      noted_in named about plan m (picks ++ pick_here about c item ∷ []) ≡ noted_in named about plan m picks ++ noted_here named about c (Some item)
  noted_at_decision false picks c k seat site item there stands = refl
  noted_at_decision true picks c k seat site item there stands =
      let p = pick_here about c item in
      let marks = Marks (After []) picks in
      marks_more [] picks p ∙ ap (λ at. marks ++ marks_there about at p ∷ []) there
      ∙ ap (λ o. marks ++ bounds_at about (unwrap_or o 0) item c ∷ []) (sym stands)

  marks_long : (at : Option (Stopped ℕ)) (picks : List Pick) → length (Marks at picks) ≡ length picks
  marks_long at [] = refl
  marks_long at (p ∷ picks) = ap suc (marks_long (stop_behind_pick about dealing_of plan m at p) picks)

  -- as many notes as choices
  pub noted_long : {A B : Type 0} (named : Bool) (f : A → List Bound) (g : B → Pick) (xs : List A) (ys : List B) →
      map f xs ≡ noted_in named about plan m (map g ys) → named ≡ true → length xs ≡ length ys
  noted_long false f g xs ys is e = absurd cc
  noted_long true f g xs ys is e = sym (length-map xs f) ∙ ap length is ∙ marks_long (After []) (map g ys) ∙ length-map ys g

-- ---- along the steps of a match

kept_picks : (about : About) (r : Record) (stop : Stop) (c : Config) (k : ℕ) → (notes_at about r stop c k).picks ≡ r.picks
kept_picks about r (decide seat site) c k = refl
kept_picks about r is_done c k = refl
kept_picks about r is_limit c k = refl

step_picks : (about : About) (plan : Plan) (m : ℕ) (pick : Option ℕ) (c : Config) (k : ℕ) (r : Record) (after : MatchLane) →
    stepped about plan m (lane_on c k r (ready pick)) ≡ Some after → (noted about c r pick).picks ≡ after.notes.picks
step_picks about plan m pick c k r after is =
    let r' = noted about c r pick in
    let found = mapped (lane_at about plan m r') (next_stop about (dealing_of (deal_at plan m).deal) k c pick) after is in
    let at = found.0 in
    sym (kept_picks about r' at.stop at.config at.dealer) ∙ ap (λ (l : MatchLane). l.notes.picks) found.2

module _ (about : About) (plan : Plan) (m : ℕ) (fits : about.shape ≡ shape_of about.sheet) (formed : IsWellFormed about.sheet) (sight : IsInSight about.sheet) where
  noted_chosen : (named : Bool) (phase : Phase) (c : Config) (k : ℕ) (r : Record) (item : ℕ) → IsSound about plan m (lane_on c k r phase) → Chosen phase (Some item) →
      noted_in named about plan m (r.picks ++ pick_here about c item ∷ []) ≡ noted_in named about plan m r.picks ++ noted_here named about c (Some item)
  noted_chosen named (ready pick) c k r item sound is = absurd is
  noted_chosen named (asks need) c k r item sound is =
      let has = sound.way.waits in
      let at : Stopped ℕ = record { stop = decide has.seat has.site; config = c; dealer = k } in
      let decision = decision_there about plan m fits formed sight (items_of r.picks) at has.seat has.site has.there refl in
      noted_at_decision about plan m named r.picks c k has.seat has.site item has.there decision.stands
  noted_chosen named (missed need) c k r item sound is = absurd is
  noted_chosen named (holds need key) c k r item sound is = absurd is
  noted_chosen named over c k r item sound is = absurd is
  noted_chosen named spent c k r item sound is = absurd is

  -- behind a choice
  pub noted_on : (named : Bool) (pick : Option ℕ) (c : Config) (k : ℕ) (r : Record) (after : MatchLane) (r' : Record) (item : ℕ) (before now : List (List Bound)) →
      stepped about plan m (lane_on c k r (ready pick)) ≡ Some after → IsSound about plan m after → Chosen after.phase (Some item) → r' ≡ after.notes →
      before ≡ noted_in named about plan m (noted about c r pick).picks → now ≡ before ++ noted_here named about after.config (Some item) →
      now ≡ noted_in named about plan m (noted about after.config r' (Some item)).picks
  noted_on named pick c k r after r' item before now step sound chosen notes was is =
      is
      ∙ ap (λ marks. marks ++ noted_here named about after.config (Some item)) (was ∙ ap (noted_in named about plan m) (step_picks about plan m pick c k r after step))
      ∙ sym (noted_chosen named after.phase after.config after.shuffles after.notes item sound chosen)
      ∙ ap (λ (r : Record). noted_in named about plan m (r.picks ++ pick_here about after.config item ∷ [])) (sym notes)

none_noted : (named : Bool) (about : About) (c : Config) → noted_here named about c None ≡ []
none_noted true about c = refl
none_noted false about c = refl

-- at the end
pub noted_end : (about : About) (plan : Plan) (m : ℕ) (named : Bool) (pick : Option ℕ) (c : Config) (k : ℕ) (r : Record) (after : MatchLane) (r' : Record)
    (before now : List (List Bound)) → stepped about plan m (lane_on c k r (ready pick)) ≡ Some after → r' ≡ after.notes →
    before ≡ noted_in named about plan m (noted about c r pick).picks → now ≡ before ++ noted_here named about after.config None →
    now ≡ noted_in named about plan m r'.picks
noted_end about plan m named pick c k r after r' before now step notes was is =
    is ∙ ap (λ more. before ++ more) (none_noted named about after.config) ∙ append-nil before
    ∙ was ∙ ap (noted_in named about plan m) (step_picks about plan m pick c k r after step)
    ∙ ap (λ (r : Record). noted_in named about plan m r.picks) (sym notes)

-- before the first choice
pub none_yet : (named : Bool) (about : About) (plan : Plan) (m : ℕ) → noted_in named about plan m [] ≡ []
none_yet true about plan m = refl
none_yet false about plan m = refl

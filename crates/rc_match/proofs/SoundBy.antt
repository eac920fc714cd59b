-- A match in which seats choose by what they see stays that match from stop to stop.
use Rattle.std.proofs.Common.{◌≡◌, ℕ, zero, suc, ◌<◌, ◌≤◌, nat_le, Bool, true, false, List, [], ◌∷◌, ◌++◌, length, take, slice_get, Option, Some, None, refl, sym, ap, ◌∙◌, subst, arith}
use Rattle.std.specs.Prelude.{option_map, unwrap_or}
use Rattle.std.proofs.lemmas.Bool.{leb-true, leb-false}
use Rattle.std.proofs.lemmas.List.{take_all}
use Rattle.rc_base.specs.Transcript.{Pick, Record, Ending, done, limit}
use Rattle.rc_sheet_spec.specs.Sight.{IsInSight}
use Rattle.rc_sheet_spec.specs.WellFormed.{IsWellFormed}
use Rattle.rc_play_spec.specs.Control.{Control}
use Rattle.rc_play_spec.specs.Table.{Table}
use Rattle.rc_play_spec.specs.Owners.{mover}
use Rattle.rc_play_spec.specs.Shape.{shape_of}
use Rattle.rc_play_spec.specs.View.{view_of}
use Rattle.rc_play_spec.specs.Menu.{menu_from}
use Rattle.rc_play_spec.specs.About.{About, scene_at, menu_at}
use Rattle.rc_play_spec.specs.Effects.{Dealing}
use Rattle.rc_play_spec.specs.Step.{Config, Stop, decide, is_done, is_limit}
use Rattle.rc_play_spec.specs.Stop.{Stopped}
use Rattle.rc_play_spec.specs.Play.{items_of, Played, pick_at, stop_for}
use Rattle.rc_play_spec.specs.Scores.{record_of}
use Rattle.rc_play_spec.specs.Fits.{IsDecision, IsEnd}
use Rattle.rc_play_spec.specs.Plan.{Plan, deal_at}
use Rattle.rc_play_spec.specs.Strategy.{menu_size}
use Rattle.rc_play_spec.specs.Keyed.{dealing_of, reached_in}
use Rattle.rc_play_spec.proofs.ChoiceLemmas.{size_of_view}
use Rattle.rc_play_spec.proofs.FitLemmas.{picks_fit}
use Rattle.rc_play_spec.proofs.FollowLemmas.{mapped, play_leads}
use Rattle.rc_play_spec.proofs.FrontLemmas.{front_reached}
use Rattle.rc_play_spec.proofs.NextLemmas.{pick_taken}
use Rattle.rc_play_spec.proofs.PlacedLemmas.{IsPlaced, first_placed}
use Rattle.rc_play_spec.proofs.PlayLemmas.{play_ends}
use Rattle.rc_rules.specs.Machine.{menu_here}
use Rattle.rc_rules.proofs.MenuLemmas.{menu_there}
use Rattle.rc_redraw.specs.Need.{Need}
use Rattle.rc_match.specs.Lane.{Phase, ready, spent, MatchLane, begun, pick_here, noted, next_stop, completed, lane_at, stepped}
use Rattle.rc_match.specs.Way.{HasNeed, IsOnWay}
use Rattle.rc_match.specs.Sound.{Choices, AreItems, chooser_by, play_by, match_by, GoesWith, IsSoundBy}
use Rattle.rc_match.specs.Asks.{decisions_in}
use Rattle.rc_match.proofs.WayLemmas.{lane_on, noted_heads, way_spent, decision_there, leads_next}

-- one pick more of a front
taken_more : (xs ys : List Pick) (x : Pick) → take (length ys) xs ≡ ys → slice_get xs (length ys) ≡ Some x → take (length (ys ++ x ∷ [])) xs ≡ ys ++ x ∷ []
taken_more [] [] x front next = absurd (cc)
taken_more (z ∷ xs) [] x front next = let same : z ≡ x = cc in ap (λ w. w ∷ []) same
taken_more [] (y ∷ ys) x front next = absurd (cc)
taken_more (z ∷ xs) (y ∷ ys) x front next =
    let same : z ≡ y = cc in
    let rest : take (length ys) xs ≡ ys = cc in
    ap (λ w. w ∷ take (length (ys ++ x ∷ [])) xs) same ∙ ap (λ ws. y ∷ ws) (taken_more xs ys x rest next)

pub one_there : (xs : List Pick) (n : ℕ) (x : Pick) → slice_get xs n ≡ Some x → n < length xs
one_there [] zero x is = absurd (cc)
one_there [] (suc n) x is = absurd (cc)
one_there (y ∷ xs) zero x is = omega arith
one_there (y ∷ xs) (suc n) x is = let rest = one_there xs n x is in omega (arith, rest)

pub front_short : (xs ys : List Pick) → take (length ys) xs ≡ ys → length ys ≤ length xs
front_short xs [] front = omega arith
front_short [] (y ∷ ys) front = absurd (cc)
front_short (x ∷ xs) (y ∷ ys) front = let rest : take (length ys) xs ≡ ys = cc in let short = front_short xs ys rest in omega (arith, short)

same_ending : (e e' : Ending) → stop_for e ≡ stop_for e' → e ≡ e'
same_ending done done is = refl
same_ending done limit is = absurd (cc)
same_ending limit done is = absurd (cc)
same_ending limit limit is = refl

no_decision : (e : Ending) (seat site : ℕ) → stop_for e ≡ decide seat site → ⊥
no_decision done seat site is = absurd (cc)
no_decision limit seat site is = absurd (cc)

same_play : (p : Played ℕ) (picks : List Pick) (ending : Ending) (table : Table) (control : Control) (k : ℕ) →
    p.picks ≡ picks → p.ending ≡ ending → p.table ≡ table → p.control ≡ control → p.dealer ≡ k →
    p ≡ record { picks = picks; ending = ending; table = table; control = control; dealer = k }
same_play p picks ending table control k e1 e2 e3 e4 e5 =
    let a : p ≡ record { picks = picks; ending = p.ending; table = p.table; control = p.control; dealer = p.dealer } =
    ap (λ (x : List Pick). record { picks = x; ending = p.ending; table = p.table; control = p.control; dealer = p.dealer }) e1 in
    a ∙ ap (λ (x : Ending). record { picks = picks; ending = x; table = p.table; control = p.control; dealer = p.dealer }) e2
    ∙ ap (λ (x : Table). record { picks = picks; ending = ending; table = x; control = p.control; dealer = p.dealer }) e3
    ∙ ap (λ (x : Control). record { picks = picks; ending = ending; table = table; control = x; dealer = p.dealer }) e4
    ∙ ap (λ (x : ℕ). record { picks = picks; ending = ending; table = table; control = control; dealer = x }) e5

-- a match before its first step
pub begun_sound : (about : About) (choices : Choices) (plan : Plan) (m : ℕ) → IsSoundBy about choices plan m (begun about plan m)
begun_sound about choices plan m =
    let play = play_ends about (dealing_of (deal_at plan m).deal) (chooser_by about choices plan m) 0 in
    record {
      way = record { number = refl; deal = refl; seats = refl; waits = record { config = refl; shuffles = refl; none = refl } };
      play = play.0;
      played = play.1;
      front = refl;
      goes = tt;
    }

-- one that becomes spent with its record is what it was, as far as it was played
pub sound_spent : (about : About) (choices : Choices) (plan : Plan) (m : ℕ) (lane lane' : MatchLane) → lane'.phase ≡ spent → lane'.notes ≡ lane.notes →
    IsSoundBy about choices plan m lane → IsSoundBy about choices plan m lane'
sound_spent about choices plan m lane lane' gone kept sound =
    record {
      way = way_spent about plan m lane lane' gone kept sound.way;
      play = sound.play;
      played = sound.played;
      front = subst (λ (r : Record). take (length r.picks) sound.play.picks ≡ r.picks) (sym kept) sound.front;
      goes = subst (GoesWith about choices plan m sound.play.picks lane') (sym gone) tt;
    }

-- where a pick is ready, the play has one more
pub one_left : (about : About) (choices : Choices) (plan : Plan) (m : ℕ) (c : Config) (k : ℕ) (r : Record) (item : ℕ) →
    IsSoundBy about choices plan m (lane_on c k r (ready (Some item))) → length r.picks < decisions_in (play_by about choices plan m)
one_left about choices plan m c k r item sound =
    let less = one_there sound.play.picks (length r.picks) _ sound.goes in
    let count : decisions_in (play_by about choices plan m) ≡ length sound.play.picks = ap decisions_in sound.played in
    omega (arith, less, count)

module _ (about : About) (choices : Choices) (items : AreItems about choices) (plan : Plan) (m : ℕ)
    (fits : about.shape ≡ shape_of about.sheet) (formed : IsWellFormed about.sheet) (sight : IsInSight about.sheet) where
  abbrev dealing : Dealing ℕ
  dealing = dealing_of (deal_at plan m).deal

  -- at a decision there is a menu, and what is chosen is one of its items
  chosen_fits : (seat site : ℕ) (c : Config) (k : ℕ) → IsDecision about seat site c → IsPlaced about dealing c →
      (chooser_by about choices plan m seat site c.table c.control k).0 < length (menu_at about site c.table c.control)
  chosen_fits seat site c k decision placed =
      let alts = (first_placed about.sheet c.left site decision.alts decision.rest placed decision.first).1 in
      let some : 0 < length (menu_at about site c.table c.control) =
      subst (λ a. 0 < length (menu_from (scene_at about c.table c.control.frames) a)) (sym alts) decision.some in
      let size : length (menu_at about site c.table c.control) ≡ menu_size about (view_of about.shape seat c.table c.control) =
      size_of_view about site c.table c.control (ap (λ s. s.places) fits) sight decision.stands
      ∙ ap (λ s. menu_size about (view_of about.shape s c.table c.control)) (sym decision.moves) in
      subst (λ n. choices seat (view_of about.shape seat c.table c.control) < n) (sym size)
      (items seat (view_of about.shape seat c.table c.control) (subst (λ n. 0 < n) size some))

  -- so the picks of the play lead to its end
  pub play_leads_on : (p : Played ℕ) → play_by about choices plan m ≡ Some p →
      (at : Stopped ℕ) × (reached_in about plan m (items_of p.picks) ≡ Some at) × IsEnd p at
  play_leads_on p is =
      play_leads about dealing (chooser_by about choices plan m) (λ seat site table control k. refl) 0 p is
      (picks_fit about dealing (chooser_by about choices plan m) chosen_fits formed.numbered.sites 0 p is)

  -- the pick at a decision is the play's next one, where it is what the seat chooses
  next_pick : (p : Played ℕ) → play_by about choices plan m ≡ Some p → (picks : List Pick) (c : Config) (k seat site item : ℕ) →
      take (length picks) p.picks ≡ picks → reached_in about plan m (items_of picks) ≡ Some (record { stop = decide seat site; config = c; dealer = k }) →
      item ≡ choices seat (view_of about.shape seat c.table c.control) →
      slice_get p.picks (length picks) ≡ Some (pick_here about c item)
  next_pick p play picks c k seat site item front there is =
      let at : Stopped ℕ = record { stop = decide seat site; config = c; dealer = k } in
      let decision = decision_there about plan m fits formed sight (items_of picks) at seat site there refl in
      pick_taken about dealing (chooser_by about choices plan m) (λ seat site table control k. refl) 0 p play (length picks) seat site at (ap (λ ps. reached_in about plan m (items_of ps)) front ∙ there) refl
      ∙ ap (λ x. Some (pick_at about seat site x c)) (sym is)
      ∙ ap (λ s. Some (pick_at about s site item c)) decision.moves
      ∙ ap (λ o. Some (pick_at about (mover about.sheet c.control.frames) (unwrap_or o 0) item c)) (sym decision.stands)

  -- at an end every pick was made
  pub all_picked : (p : Played ℕ) → play_by about choices plan m ≡ Some p → (picks : List Pick) (c : Config) (k : ℕ) (ending : Ending) →
      take (length picks) p.picks ≡ picks → reached_in about plan m (items_of picks) ≡ Some (record { stop = stop_for ending; config = c; dealer = k }) →
      length p.picks ≤ length picks
  all_picked p play picks c k ending front there = by (nat_le (length p.picks) (length picks)) refl where
    by : (b : Bool) → nat_le (length p.picks) (length picks) ≡ b → length p.picks ≤ length picks
    by true is = leb-true _ _ is
    by false is =
        let end = play_leads_on p play in
        let mid = front_reached about (dealing_of (deal_at plan m).deal) p.picks 0 end.0 end.1 (length picks) (leb-false _ _ is) in
        let both : Some mid.0 ≡ Some (record { stop = stop_for ending; config = c; dealer = k }) =
        sym mid.3 ∙ (ap (λ ps. reached_in about plan m (items_of ps)) front ∙ there) in
        let same : mid.0 ≡ record { stop = stop_for ending; config = c; dealer = k } = cc in
        absurd (no_decision ending mid.1 mid.2 (sym (ap (λ (at : Stopped ℕ). at.stop) same) ∙ mid.4))

  -- and the play is that of these picks
  ended_play : (p : Played ℕ) → play_by about choices plan m ≡ Some p → (picks : List Pick) (c : Config) (k : ℕ) (ending : Ending) →
      take (length picks) p.picks ≡ picks → reached_in about plan m (items_of picks) ≡ Some (record { stop = stop_for ending; config = c; dealer = k }) →
      p ≡ record { picks = picks; ending = ending; table = c.table; control = c.control; dealer = k }
  ended_play p play picks c k ending front there =
      let all : p.picks ≡ picks = sym (take_all (length picks) p.picks (all_picked p play picks c k ending front there)) ∙ front in
      let end = play_leads_on p play in
      let both : Some end.0 ≡ Some (record { stop = stop_for ending; config = c; dealer = k }) =
      sym end.1 ∙ (ap (λ ps. reached_in about plan m (items_of ps)) all ∙ there) in
      let same : end.0 ≡ record { stop = stop_for ending; config = c; dealer = k } = cc in
      let is : IsEnd p end.0 = end.2 in
      same_play p picks ending c.table c.control k all
      (same_ending p.ending ending (sym is.stop ∙ ap (λ (at : Stopped ℕ). at.stop) same))
      (sym is.table ∙ ap (λ (at : Stopped ℕ). at.config.table) same)
      (sym is.control ∙ ap (λ (at : Stopped ℕ). at.config.control) same)
      (sym is.dealer ∙ ap (λ (at : Stopped ℕ). at.dealer) same)

  -- so the completed record is that of the match
  ended_match : (p : Played ℕ) → play_by about choices plan m ≡ Some p → (r : Record) (c : Config) (k : ℕ) (ending : Ending) →
      r.number ≡ m → r.deal ≡ (deal_at plan m).deal → r.seats ≡ (deal_at plan m).seats →
      take (length r.picks) p.picks ≡ r.picks → reached_in about plan m (items_of r.picks) ≡ Some (record { stop = stop_for ending; config = c; dealer = k }) →
      match_by about choices plan m ≡ Some (completed about r ending c k)
  ended_match p play r c k ending number deal seats front there =
      let q : Played ℕ = record { picks = r.picks; ending = ending; table = c.table; control = c.control; dealer = k } in
      let d = deal_at plan m in
      ap (option_map (record_of about m d.deal d.seats)) play
      ∙ ap (λ p. Some (record_of about m d.deal d.seats p)) (ended_play p play r.picks c k ending front there)
      ∙ ap (λ n. Some (record_of about n d.deal d.seats q)) (sym number)
      ∙ ap (λ n. Some (record_of about r.number n d.seats q)) (sym deal)
      ∙ ap (λ n. Some (record_of about r.number r.deal n q)) (sym seats)

  noted_front : (pick : Option ℕ) (c : Config) (k : ℕ) (r : Record) (sound : IsSoundBy about choices plan m (lane_on c k r (ready pick))) →
      take (length (noted about c r pick).picks) sound.play.picks ≡ (noted about c r pick).picks
  noted_front None c k r sound = sound.front
  noted_front (Some item) c k r sound = taken_more sound.play.picks r.picks (pick_here about c item) sound.front sound.goes

  -- at the next stop
  pub sound_there : (r : Record) (p : Played ℕ) → play_by about choices plan m ≡ Some p → take (length r.picks) p.picks ≡ r.picks →
      r.number ≡ m → r.deal ≡ (deal_at plan m).deal → r.seats ≡ (deal_at plan m).seats →
      (stop : Stop) (c : Config) (k : ℕ) → reached_in about plan m (items_of r.picks) ≡ Some (record { stop = stop; config = c; dealer = k }) →
      IsOnWay about plan m (lane_at about plan m r (record { stop = stop; config = c; dealer = k })) →
      IsSoundBy about choices plan m (lane_at about plan m r (record { stop = stop; config = c; dealer = k }))
  sound_there r p play front number deal seats (decide seat site) c k there way =
      record { way = way; play = p; played = play; front = front; goes = tt }
  sound_there r p play front number deal seats is_done c k there way =
      record { way = way; play = p; played = play; front = front; goes = ended_match p play r c k done number deal seats front there }
  sound_there r p play front number deal seats is_limit c k there way =
      record { way = way; play = p; played = play; front = front; goes = ended_match p play r c k limit number deal seats front there }

  pub sound_next : (pick : Option ℕ) (c : Config) (k : ℕ) (r : Record) (at : Stopped ℕ) → IsSoundBy about choices plan m (lane_on c k r (ready pick)) →
      reached_in about plan m (items_of (noted about c r pick).picks) ≡ Some at →
      IsOnWay about plan m (lane_at about plan m (noted about c r pick) at) → IsSoundBy about choices plan m (lane_at about plan m (noted about c r pick) at)
  sound_next pick c k r at sound there way =
      let heads = noted_heads about plan m pick c r sound.way.number sound.way.deal sound.way.seats in
      sound_there (noted about c r pick) sound.play sound.played (noted_front pick c k r sound) heads.0 heads.1 heads.2 at.stop at.config at.dealer there way

  pub sound_step : (pick : Option ℕ) (c : Config) (k : ℕ) (r : Record) (lane : MatchLane) → IsSoundBy about choices plan m (lane_on c k r (ready pick)) →
      stepped about plan m (lane_on c k r (ready pick)) ≡ Some lane → IsOnWay about plan m lane → IsSoundBy about choices plan m lane
  sound_step pick c k r lane sound is way =
      let found = mapped (lane_at about plan m (noted about c r pick)) (next_stop about (dealing_of (deal_at plan m).deal) k c pick) lane is in
      let there = leads_next about plan m fits formed sight pick c k r sound.way ∙ found.1 in
      subst (IsSoundBy about choices plan m) found.2 (sound_next pick c k r found.0 sound there (subst (IsOnWay about plan m) (sym found.2) way))

  -- what is chosen at a decision is an item of the menu, and the next pick
  pub sound_answered : (phase : Phase) (need : Need) (c : Config) (k : ℕ) (r : Record) (item : ℕ) → IsSoundBy about choices plan m (lane_on c k r phase) →
      (has : HasNeed about plan m (lane_on c k r phase) need) → item ≡ choices has.seat (view_of about.shape has.seat c.table c.control) →
      IsSoundBy about choices plan m (lane_on c k r (ready (Some item)))
  sound_answered phase need c k r item sound has is =
      let way = sound.way in
      let at : Stopped ℕ = record { stop = decide has.seat has.site; config = c; dealer = k } in
      let decision = decision_there about plan m fits formed sight (items_of r.picks) at has.seat has.site has.there refl in
      let view = view_of about.shape has.seat c.table c.control in
      let size : menu_size need.about need.view ≡ menu_size about view = ap (λ (n : Need). menu_size n.about n.view) has.same in
      let some = has.is.decision.some in
      let below = items has.seat view (omega (arith, some, size)) in
      let long : length (menu_here about c) ≡ menu_size need.about need.view = sym (ap (λ (n : Need). n.menu) has.same) ∙ has.is.menu in
      let menu = ap length (menu_there about c has.site decision.stands) in
      record {
        way =
            record {
              number = way.number;
              deal = way.deal;
              seats = way.seats;
              waits = record { seat = has.seat; site = has.site; there = has.there; offered = omega (arith, is, below, size, long, menu) };
            };
        play = sound.play;
        played = sound.played;
        front = sound.front;
        goes = next_pick sound.play sound.played r.picks c k has.seat has.site item sound.front has.there is;
      }

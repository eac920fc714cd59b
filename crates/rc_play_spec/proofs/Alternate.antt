-- In a game of two teams a search that tells the points of one seat alone finds what one finds that tells those of all.
use Rattle.std.proofs.Common.{◌≡◌, ℕ, zero, suc, ◌<◌, ◌≤◌, List, [], ◌∷◌, length, map, Option, Some, refl, sym, ap, ◌∙◌, subst, arith}
use Rattle.std.specs.List.{AllByRecursion}
use Rattle.std.proofs.lemmas.List.{length-map}
use Rattle.std.proofs.lemmas.List.FromFn.{get_or-map-range_with_len, length-range_with_len}
use Rattle.rc_base.specs.Numbers.{below}
use Rattle.rc_sheet_spec.specs.WellFormed.{IsWellFormed}
use Rattle.rc_play_spec.specs.Control.{Control}
use Rattle.rc_play_spec.specs.Table.{Table}
use Rattle.rc_play_spec.specs.Shape.{team_in, shape_of}
use Rattle.rc_play_spec.specs.Menu.{menu_from}
use Rattle.rc_play_spec.specs.About.{About, scene_at, menu_at}
use Rattle.rc_play_spec.specs.Effects.{Dealing}
use Rattle.rc_play_spec.specs.Step.{Config, Stop, decide, is_done, is_limit}
use Rattle.rc_play_spec.specs.Stop.{Stopped}
use Rattle.rc_play_spec.specs.Decision.{at_site}
use Rattle.rc_play_spec.specs.Fits.{IsDecision, FitsSite}
use Rattle.rc_play_spec.specs.Play.{stop_behind}
use Rattle.rc_play_spec.specs.Scores.{scores_of, rank_points}
use Rattle.rc_play_spec.proofs.FrameRanges.{IsInRange}
use Rattle.rc_play_spec.proofs.PlacedLemmas.{IsPlaced, left_placed, first_placed, Ready, ready_behind}
use Rattle.rc_play_spec.proofs.RangeLemmas.{team_within_of}
use Rattle.rc_play_spec.proofs.StopLemmas.{comes_to_stop}
use Rattle.rc_play_spec.proofs.ChoiceLemmas.{choice_goes}
use Rattle.rc_play_spec.specs.Search.{all_points, at_stop, next_behind, worth}
use Rattle.rc_play_spec.specs.SearchValue.{most_points, value, turned_out}
use Rattle.rc_play_spec.specs.SearchLaws.{HasTwoTeams, TwoTeamsAlternate}
use Rattle.rc_play_spec.proofs.BestPoints.{entry}
use Rattle.rc_play_spec.proofs.TeamPoints.{IsFared, fared, points_fared, best_fared, best_turns_out, fared_few}
use Rattle.rc_play_spec.proofs.Ranges.{mover_plays, site_range, range_behind}

all_mapped : {X Y : Type 0} (P : Y → Type 0) (f : X → Y) → ((x : X) → P (f x)) → (xs : List X) → AllByRecursion P (map f xs)
all_mapped P f each [] = tt
all_mapped P f each (x ∷ xs) = (each x, all_mapped P f each xs)

map_again : (f : ℕ → List ℕ) (g : ℕ → ℕ) (h : List ℕ → ℕ) → ((x : ℕ) → h (f x) ≡ g x) → (xs : List ℕ) → map h (map f xs) ≡ map g xs
map_again f g h each [] = refl
map_again f g h each (x ∷ xs) = ap (λ n. n ∷ map h (map f xs)) (each x) ∙ ap (λ ns. g x ∷ ns) (map_again f g h each xs)

-- so there is a next stop
pub next_there : (about : About) (dealing : Dealing ℕ) (c : Config) (made x : ℕ) → (at : Stopped ℕ) × (next_behind about dealing c made x ≡ Some at)
next_there about dealing c made x =
    let g = choice_goes about dealing made x c.left c.table c.control in
    let s = comes_to_stop about dealing g.0 g.1 in
    (s.0, ap (stop_behind about dealing) g.2 ∙ s.1)

module _ (about : About) (fits : about.shape ≡ shape_of about.sheet) (formed : IsWellFormed about.sheet) (two : HasTwoTeams about.sheet)
    (dealing : Dealing ℕ) (seat : ℕ) (plays : seat < about.sheet.players) where
  teams : (p : ℕ) → p < about.sheet.players → team_in about.sheet.teams p < 2
  teams p lt = let h = team_within_of about.sheet formed.limits.some_players about.sheet.teams formed.teams p lt in omega (arith, h, two)

  abbrev Fared : List ℕ → Type 0
  Fared points = IsFared about.sheet seat plays teams points

  -- what is known at a stop
  abbrev Known : Stop → Config → Type 0
  Known (decide mover site) c = IsDecision about mover site c × IsPlaced about dealing c × IsInRange about fits formed c
  Known is_done c = Unit {0}
  Known is_limit c = Unit {0}

  known : (stop : Stop) (c : Config) → Ready about dealing stop c → IsInRange about fits formed c → Known stop c
  known (decide mover site) c is range = (is.0, is.1, range)
  known is_done c is range = tt
  known is_limit c is range = tt

  abbrev Alternates : ℕ → Stop → Config → ℕ → Type 0
  Alternates depth stop c made =
      Fared (worth about dealing depth stop c made) × (entry seat (worth about dealing depth stop c made) ≡ value about dealing seat depth stop c made)

  ends : (c : Config) → Fared (all_points about c) × (entry seat (all_points about c) ≡ rank_points about.sheet (scores_of about c.table c.control) seat)
  ends c =
      let scores = scores_of about c.table c.control in (
        ((fared about.sheet seat plays teams scores).0, points_fared about.sheet seat plays teams scores),
        get_or-map-range_with_len (rank_points about.sheet scores) 0 about.sheet.players seat seat 0 plays (omega arith),
      )

  abbrev AlternatesBehind : ℕ → Option (Stopped ℕ) → Type 0
  AlternatesBehind depth o =
      Fared (at_stop [] (worth about dealing depth) o) × (entry seat (at_stop [] (worth about dealing depth) o) ≡ at_stop 0 (value about dealing seat depth) o)

  behind : (depth : ℕ) (c : Config) (made x : ℕ) → IsPlaced about dealing c → IsInRange about fits formed c →
      ((stop : Stop) (c : Config) (made : ℕ) → Known stop c → Alternates depth stop c made) → AlternatesBehind depth (next_behind about dealing c made x)
  behind depth c made x placed range rest =
      let next = next_there about dealing c made x in
      let at = next.0 in
      subst (AlternatesBehind depth) (sym next.1)
      (rest at.stop at.config at.dealer
      (known at.stop at.config (ready_behind about dealing made x c at placed next.1) (range_behind about fits formed dealing made x c at range next.1)))

  some_offered : (mover site : ℕ) (c : Config) → IsDecision about mover site c → IsPlaced about dealing c → 0 < length (menu_at about site c.table c.control)
  some_offered mover site c decision placed =
      let alts = (first_placed about.sheet c.left site decision.alts decision.rest placed decision.first).1 in
      subst (λ a. 0 < length (menu_from (scene_at about c.table c.control.frames) a)) (sym alts) decision.some

  alternates : (depth : ℕ) (stop : Stop) (c : Config) (made : ℕ) → Known stop c → Alternates depth stop c made
  alternates depth is_done c made is = ends c
  alternates depth is_limit c made is = ends c
  alternates zero (decide mover site) c made is = ends c
  alternates (suc depth) (decide mover site) c made is =
      let items = below (length (menu_at about site c.table c.control)) in
      let f : ℕ → List ℕ = λ x. at_stop [] (worth about dealing depth) (next_behind about dealing c made x) in
      let g : ℕ → ℕ = λ x. at_stop 0 (value about dealing seat depth) (next_behind about dealing c made x) in
      let each : (x : ℕ) → AlternatesBehind depth (next_behind about dealing c made x) =
      λ x. behind depth c made x is.1 is.2 (λ stop c made is. alternates depth stop c made is) in
      let all = all_mapped Fared f (λ x. (each x).0) items in
      let offered = some_offered mover site c is.0 is.1 in
      let long = length-map items f in
      let count = length-range_with_len 0 (length (menu_at about site c.table c.control)) in
      let some : 0 < length (map f items) = omega (arith, offered, long, count) in
      let plays' = mover_plays about fits formed c is.2 in
      let moves = is.0.moves in
      let there : mover < about.sheet.players = omega (arith, plays', moves) in (
        best_fared about.sheet seat plays teams mover (map f items) some all,
        best_turns_out about.sheet seat plays teams mover there (map f items) some all
            ∙ ap (turned_out about dealing seat mover) (map_again f g (entry seat) (λ x. (each x).1) items),
      )

  pub root_alternates : (site depth made x : ℕ) (table : Table) (control : Control) → FitsSite about site control →
      (entry seat (at_stop [] (worth about dealing depth) (next_behind about dealing (at_site about table control) made x))
      ≡ at_stop 0 (value about dealing seat depth) (next_behind about dealing (at_site about table control) made x))
      × (at_stop 0 (value about dealing seat depth) (next_behind about dealing (at_site about table control) made x) ≤ most_points about.sheet seat)
  root_alternates site depth made x table control at =
      let h = behind depth (at_site about table control) made x (left_placed about.sheet formed.numbered.sites _) (site_range about fits formed site table control at)
      (λ stop c made is. alternates depth stop c made is) in
      let few = fared_few about.sheet seat plays teams (at_stop [] (worth about dealing depth) (next_behind about dealing (at_site about table control) made x)) h.0 in
      let same = h.1 in
      (h.1, omega (arith, few, same))

pub two_teams : TwoTeamsAlternate
two_teams about dealing seat site depth made x table control fits formed two plays at =
    root_alternates about fits formed two dealing seat plays site depth made x table control at

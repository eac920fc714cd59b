-- Every playout ends, and what a seat gains in it is at most two points for each other player.
use Rattle.std.proofs.Common.{◌≡◌, ℕ, ◌+◌, ◌-◌, ◌*◌, ◌<◌, ◌≤◌, ◌==◌, Bool, true, false, if◌then◌else◌, List, [], ◌∷◌, get_or, length, Option, Some, None, refl, sym, ap, ◌∙◌, subst, arith}
use Rattle.std.specs.Prelude.{All, sum_by, ℤ}
use Rattle.std.proofs.lemmas.Bool.{cond-true}
use Rattle.std.proofs.lemmas.Bool.Decides.{Decides-eqb}
use Rattle.std.proofs.lemmas.List.{length-map}
use Rattle.std.proofs.lemmas.List.Elements.{All-map}
use Rattle.std.proofs.lemmas.List.FromFn.{length-range_with_len}
use Rattle.std.proofs.lemmas.List.Sums.{sum_by-cons, sum_by-le}
use Rattle.rc_base.specs.Numbers.{below}
use Rattle.rc_sheet_spec.specs.Sheet.{do_item, stage, choice, Sheet}
use Rattle.rc_play_spec.specs.Control.{Control}
use Rattle.rc_play_spec.specs.Shape.{team_in}
use Rattle.rc_play_spec.specs.Table.{Table}
use Rattle.rc_play_spec.specs.About.{About}
use Rattle.rc_play_spec.specs.Effects.{Dealing}
use Rattle.rc_play_spec.specs.Step.{Part, todo, round, turn, Next, goes, stops}
use Rattle.rc_play_spec.specs.Decision.{choose}
use Rattle.rc_play_spec.specs.Play.{Chooser, Played, from_stop, stop_behind, played_on}
use Rattle.rc_play_spec.specs.Scores.{scores_of, points_against, rank_points}
use Rattle.rc_play_spec.specs.Strategy.{menu_size}
use Rattle.rc_play_spec.specs.Tally.{Ask, playout_dealing, playout_chooser, redrawn_at, playout, gain_of, total, tally}
use Rattle.rc_play_spec.proofs.Counting.{one_if, passing, same, once_below}
use Rattle.rc_play_spec.proofs.PlayLemmas.{at_stop, ends}

-- a choice always leads on
abbrev IsGoes : {S : Type 0} → Next S → Type 0
IsGoes (goes k c) = Unit {0}
IsGoes (stops stop c) = ⊥

module _ {S : Type 0} (about : About) (dealing : Dealing S) (chooser : Chooser S) where
  choice_goes : (k : S) (x : ℕ) (left : List Part) (table : Table) (control : Control) →
      IsGoes (choose about dealing k x (record { left = left; table = table; control = control }))
  choice_goes k x [] table control = tt
  choice_goes k x (todo (do_item effects) ∷ rest) table control = tt
  choice_goes k x (todo (stage number class end body) ∷ rest) table control = tt
  choice_goes k x (todo (choice site alts) ∷ rest) table control = tt
  choice_goes k x (round s ∷ rest) table control = tt
  choice_goes k x (turn s ∷ rest) table control = tt

  ends_behind : (next : Next S) → IsGoes next →
      (p : Played S) × (from_stop (played_on about dealing chooser about.turns) (stop_behind about dealing next) ≡ Some p)
  ends_behind (stops stop c) is = absurd is
  ends_behind (goes k c) is =
      let at = at_stop about dealing k c in
      let risen = at.2 in
      let p = ends about dealing chooser about.turns (at.0).stop (at.0).config (at.0).dealer (omega arith) risen.1 in
      (p.0, ap (from_stop (played_on about dealing chooser about.turns)) at.1 ∙ p.1)

pub playout_ends : (about : About) (ask : Ask) (r x : ℕ) → (p : Played ℕ) × (playout about ask r x ≡ Some p)
playout_ends about ask r x =
    let c = redrawn_at about ask r in
    ends_behind about (playout_dealing ask r x) (playout_chooser about ask r x) (choose about (playout_dealing ask r x) 0 x c)
    (choice_goes about (playout_dealing ask r x) (playout_chooser about ask r x) 0 x c.left c.table c.control)

-- each other player gives at most two points, and the seat itself none
nested : (a b c : Bool) → (if a then 0 else if b then 2 else if c then 1 else 0) ≤ 2
nested true b c = omega arith
nested false true c = omega arith
nested false false true = omega arith
nested false false false = omega arith

all_but_one : (f : ℕ → ℕ) (i : ℕ) → ((x : ℕ) → f x + 2 * one_if (x == i) ≤ 2) → (xs : List ℕ) →
    sum_by f xs + 2 * passing (same i) xs ≤ 2 * length xs
all_but_one f i each [] = omega arith
all_but_one f i each (x ∷ xs) =
    let rest = all_but_one f i each xs in
    let here = each x in
    let step = sum_by-cons f x xs in omega (arith, rest, here, step)

module _ (sheet : Sheet) (scores : List ℤ) (seat : ℕ) where
  abbrev from : ℕ → ℕ
  from other = points_against sheet scores (team_in sheet.teams seat) (team_in sheet.teams other)

  from_other : (other : ℕ) (b : Bool) → (other == seat) ≡ b → from other + 2 * one_if b ≤ 2
  from_other other true is =
      let same_team = ap (team_in sheet.teams) ((Decides-eqb other seat).0 is) in
      let none : from other ≡ 0 = cond-true (team_in sheet.teams seat == team_in sheet.teams other) _ _ ((Decides-eqb (team_in sheet.teams seat) (team_in sheet.teams other)).1 (sym same_team)) in
      omega (arith, none)
  from_other other false is = let le : from other ≤ 2 = nested _ _ _ in omega (arith, le)

  pub points_bounded : seat < sheet.players → rank_points sheet scores seat ≤ 2 * (sheet.players - 1)
  points_bounded less =
      let sum = all_but_one from seat (λ other. from_other other (other == seat) refl) (below sheet.players) in
      let one = once_below seat sheet.players less in
      let len = length-range_with_len 0 sheet.players in omega (arith, sum, one, len, less)

gain_bounded : (about : About) (seat : ℕ) (o : Option (Played ℕ)) → seat < about.sheet.players → gain_of about seat o ≤ 2 * (about.sheet.players - 1)
gain_bounded about seat None less = omega arith
gain_bounded about seat (Some p) less = points_bounded about.sheet (scores_of about p.table p.control) seat less

each_all : {X : Type 0} (P : X → Type 0) (xs : List X) → ((x : X) → P x) → All P xs
each_all P xs each k d less = each (get_or xs k d)

total_bounded : (about : About) (ask : Ask) (x : ℕ) → ask.view.seat < about.sheet.players →
    total about ask x ≤ ask.rounds * (2 * (about.sheet.players - 1))
total_bounded about ask x less =
    let most = 2 * (about.sheet.players - 1) in
    let gain = λ (r : ℕ). gain_of about ask.view.seat (playout about ask r x) in
    subst (λ n. total about ask x ≤ n * most) (length-range_with_len 0 ask.rounds)
    (sum_by-le gain most (below ask.rounds) (each_all (λ r. gain r ≤ most) (below ask.rounds) (λ r. gain_bounded about ask.view.seat (playout about ask r x) less)))

pub totals_bounded : (about : About) (ask : Ask) → ask.view.seat < about.sheet.players →
    All (λ t. t ≤ ask.rounds * (2 * (about.sheet.players - 1))) (tally about ask)
totals_bounded about ask less =
    All-map (λ t. t ≤ ask.rounds * (2 * (about.sheet.players - 1))) (total about ask) (below (menu_size about ask.view))
    (each_all (λ x. total about ask x ≤ ask.rounds * (2 * (about.sheet.players - 1))) (below (menu_size about ask.view)) (λ x. total_bounded about ask x less))

pub tally-length : (about : About) (ask : Ask) → length (tally about ask) ≡ menu_size about ask.view
tally-length about ask = length-map (below (menu_size about ask.view)) (total about ask) ∙ length-range_with_len 0 (menu_size about ask.view)

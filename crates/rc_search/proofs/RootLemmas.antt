-- Machines that stand at the root of a round.
use Rattle.std.proofs.Common.{◌≡◌, ℕ, List, ◌<◌, false, length, Some, IsSome, unwrap_or, Result, Ok, Err, IfOk, sym, ap, ◌∙◌, subst}
use Rattle.rc_play_spec.specs.Control.{Control}
use Rattle.rc_play_spec.specs.Table.{Table}
use Rattle.rc_play_spec.specs.About.{About, menu_at}
use Rattle.rc_play_spec.specs.Step.{Config}
use Rattle.rc_play_spec.specs.Decision.{at_site}
use Rattle.rc_play_spec.specs.Draws.{key32, drawn_for, search_redraws}
use Rattle.rc_play_spec.specs.View.{View}
use Rattle.rc_play_spec.specs.Redraw.{redraw}
use Rattle.rc_play_spec.specs.Shape.{Shape, shape_of}
use Rattle.rc_play_spec.specs.Strategy.{menu_size}
use Rattle.rc_play_spec.specs.ChoiceLaws.{SizeRedrawn}
use Rattle.rc_sheet_spec.specs.Sight.{IsInSight}
use Rattle.rc_table.specs.Laid.{Laid}
use Rattle.rc_rules.specs.Machine.{StopsAtDecision, menu_here, CanDecide}
use Rattle.rc_redraw.specs.Need.{IsAtDecision}
use Rattle.rc_redraw.specs.Redraws.{Redrawn, redealt}
use Rattle.rc_flat.specs.Machine.{Machine}
use Rattle.rc_flat.specs.Moments.{IsMoment, StaysInMatch}
use Rattle.rc_flat.specs.declared.moments.Moment.{Moment}
use Rattle.rc_flat.proofs.GoingLemmas.{home_stays}
use Rattle.rc_rollout.proofs.StandingLemmas.{stands_there}
use Rattle.rc_search.specs.declared.dealer.Way.{Way}
use Rattle.rc_search.specs.Rounds.{dealt_on, redrawn_on, root_on, GoesFromRoot, IsDealing, IsAtRoot}

-- the table that is dealt for a round
pub dealt_for : (about : About) (way : Way) (view : View) (key : List ℕ) (old new : Redrawn) → IsDealing about view old → new ≡ redealt key old →
    key ≡ key32 way.key (drawn_for way.seat search_redraws) way.seed way.round → record { shape = new.shape; table = new.table } ≡ dealt_on about way view
dealt_for about way view key old new deals is key_is =
    let laid : Shape → View → List ℕ → Laid = λ shape seen key. record { shape = shape; table = redraw shape seen key } in
    ap (λ (r : Redrawn). record { shape = r.shape; table = r.table }) is
    ∙ ap (λ s. laid s old.view key) deals.shape
    ∙ ap (λ v. laid about.shape v key) deals.view
    ∙ ap (laid about.shape view) key_is

pub deals_still : (about : About) (view : View) (key : List ℕ) (old new : Redrawn) → IsDealing about view old → new ≡ redealt key old → IsDealing about view new
deals_still about view key old new deals is =
    record { shape = ap (λ (r : Redrawn). r.shape) is ∙ deals.shape; view = ap (λ (r : Redrawn). r.view) is ∙ deals.view }

module _ (about about' : About) (way : Way) (view : View) (laid : Laid) (control : Control) where
  sites_same : about' ≡ about → laid ≡ dealt_on about way view → control ≡ view.control → at_site about' laid.table control ≡ root_on about way view
  sites_same same is there =
      ap (λ a. at_site a laid.table control) same ∙ ap (λ (l : Laid). at_site about l.table control) is
      ∙ ap (λ k. at_site about (dealt_on about way view).table k) there

  pub can_decide : SizeRedrawn → about.shape ≡ shape_of about.sheet → IsInSight about.sheet → IsAtDecision about view →
      about' ≡ about → laid ≡ dealt_on about way view → control ≡ view.control → CanDecide about' laid.table control
  can_decide law shape sight at same is there =
      let size = law about at.site view (key32 way.key (drawn_for way.seat search_redraws) way.seed way.round) shape sight at.of_sound at.moves at.fits.stands in
      let can : CanDecide about (dealt_on about way view).table view.control =
      record { site = at.site; fits = at.fits; some = subst (λ n. 0 < n) size at.some; below = at.below } in
      subst (λ a. CanDecide a laid.table control) (sym same)
      (subst (λ (l : Laid). CanDecide about l.table control) (sym is)
      (subst (λ k. CanDecide about (dealt_on about way view).table k) (sym there) can))

  decides_there : SizeRedrawn → about.shape ≡ shape_of about.sheet → IsInSight about.sheet → IsAtDecision about view →
      about' ≡ about → laid ≡ dealt_on about way view → control ≡ view.control →
      (c : Config) → c ≡ at_site about' laid.table control → StopsAtDecision about c
  decides_there law shape sight at same is there c where_it_is =
      subst (StopsAtDecision about) (sym where_it_is)
      (subst (λ a. StopsAtDecision a (at_site about' laid.table control)) same
      (stands_there about' laid.table control (can_decide law shape sight at same is there)))

  size_there : SizeRedrawn → about.shape ≡ shape_of about.sheet → IsInSight about.sheet → IsAtDecision about view →
      about' ≡ about → laid ≡ dealt_on about way view → control ≡ view.control →
      (c : Config) → c ≡ at_site about' laid.table control → length (menu_here about c) ≡ menu_size about view
  size_there law shape sight at same is there c where_it_is =
      let size = law about at.site view (key32 way.key (drawn_for way.seat search_redraws) way.seed way.round) shape sight at.of_sound at.moves at.fits.stands in
      ap (λ (d : Config). length (menu_here about d)) (where_it_is ∙ sites_same same is there)
      ∙ ap (λ o. length (menu_at about (unwrap_or o 0) (dealt_on about way view).table view.control)) at.fits.stands
      ∙ sym size

  pub stands_so : SizeRedrawn → about.shape ≡ shape_of about.sheet → IsInSight about.sheet → IsAtDecision about view →
      about' ≡ about → laid ≡ dealt_on about way view → control ≡ view.control →
      (m : Machine) → m.about ≡ about' → m.config ≡ at_site about' laid.table control → m.spent ≡ false → IsSome m.home → IsAtRoot about way view m
  stands_so law shape sight at same is there m about_is config fresh home =
      record {
        same = about_is ∙ same;
        there = config ∙ sites_same same is there;
        decides = decides_there law shape sight at same is there m.config config;
        size = size_there law shape sight at same is there m.config config;
        fresh = fresh;
        home = home;
      }

  pub stands_made : {E : Type 0} (made : Result Machine E) → SizeRedrawn → about.shape ≡ shape_of about.sheet → IsInSight about.sheet →
      IsAtDecision about view → about' ≡ about → laid ≡ dealt_on about way view → control ≡ view.control →
      IfOk made (λ m. m.about ≡ about') → IfOk made (λ m. m.config ≡ at_site about' laid.table control) → IfOk made (λ m. m.spent ≡ false) →
      IfOk made (λ m. IsSome m.home) → IfOk made (IsAtRoot about way view)
  stands_made (Ok m) law shape sight at same is there about_is config fresh home =
      stands_so law shape sight at same is there m about_is config fresh home
  stands_made (Err e) law shape sight at same is there about_is config fresh home = tt

-- what is offered where a seat may decide, by the control's site
pub offered_there : (about : About) (table : Table) (control : Control) → CanDecide about table control → (site : ℕ) → control.site ≡ Some site →
    0 < length (menu_at about site table control)
offered_there about table control can site is =
    subst (λ n. 0 < length (menu_at about n table control)) (ap (λ o. unwrap_or o 0) (sym can.fits.stands ∙ is)) can.some

-- where the machine's about is this one, a moment of it is one of the machine's
pub own_moment : (about : About) (m : Machine) (moment : Moment) → m.about ≡ about → IsMoment about m.code m.config moment → IsMoment m.about m.code m.config moment
own_moment about m moment same is = subst (λ a. IsMoment a m.code m.config moment) (sym same) is

-- a machine is back at the root of its round
pub root_again : (about : About) (way : Way) (view : View) (m m' : Machine) → IsAtRoot about way view m → StaysInMatch m m' → m'.config ≡ m.config → m'.spent ≡ false →
    IsAtRoot about way view m'
root_again about way view m m' stands stays config fresh =
    record {
      same = stays.about ∙ stands.same;
      there = config ∙ stands.there;
      decides = subst (StopsAtDecision about) (sym config) stands.decides;
      size = ap (λ (c : Config). length (menu_here about c)) config ∙ stands.size;
      fresh = fresh;
      home = home_stays m m' stays stands.home;
    }

-- a machine goes on from the root of a round to that of the next one
pub goes_on : (about : About) (way : Way) (view : View) (m m' : Machine) (root : Moment) → IsAtRoot about way view m → IsMoment about m.code m.config root → StaysInMatch m m' →
    GoesFromRoot about view m' root
goes_on about way view m m' root stands is stays =
    record {
      same = stays.about ∙ stands.same;
      home = home_stays m m' stays stands.home;
      table = redrawn_on about way view;
      there = subst (λ code. IsMoment about code (root_on about way view) root) (sym stays.code)
          (subst (λ (c : Config). IsMoment about m.code c root) stands.there is);
    }

-- What holds at a stop: a match stops where nothing is left, at the turn limit, or at a decision.
use Rattle.std.proofs.Common.{◌≡◌, ℕ, zero, suc, ◌<◌, nat_le, Bool, true, false, if◌then◌else◌, List, [], ◌∷◌, length, Option, Some, None, refl, sym, subst, arith}
use Rattle.std.proofs.lemmas.Bool.{leb-true, leb-false}
use Rattle.rc_sheet_spec.specs.Sheet.{Alt, do_item, stage, choice}
use Rattle.rc_play_spec.specs.Control.{Control}
use Rattle.rc_play_spec.specs.Table.{Table}
use Rattle.rc_play_spec.specs.Menu.{Item, menu_from}
use Rattle.rc_play_spec.specs.About.{About, scene_at}
use Rattle.rc_play_spec.specs.Effects.{Dealing}
use Rattle.rc_play_spec.specs.Step.{Stage, Part, todo, round, turn, Config, Stop, Next, goes, stops, at_menu, at_round, first_step, step}
use Rattle.rc_play_spec.specs.Stop.{Stopped, effort, after, stop_of}
use Rattle.rc_play_spec.specs.Fits.{IsAtStop, HasNoSite}

-- of a next configuration, and of a stop
abbrev pub Of : {S : Type 0} → (Config → Type 0) → (Stop → Config → Type 0) → Next S → Type 0
Of P Q (goes k c) = P c
Of P Q (stops stop c) = Q stop c

pub Of-if : {S : Type 0} (P : Config → Type 0) (Q : Stop → Config → Type 0) (b : Bool) (next next' : Next S) →
    (b ≡ true → Of P Q next) → (b ≡ false → Of P Q next') → Of P Q (if b then next else next')
Of-if P Q true next next' over on = over refl
Of-if P Q false next next' over on = on refl

abbrev OfStopped : {S : Type 0} → (Stop → Config → Type 0) → Option (Stopped S) → Type 0
OfStopped Q None = Unit {0}
OfStopped Q (Some at) = Q at.stop at.config

module _ {S : Type 0} (about : About) (dealing : Dealing S) where
  -- what each step gives, a stop has
  pub stop_has : (P : Config → Type 0) (Q : Stop → Config → Type 0) → ((k : S) (c : Config) → P c → Of P Q (step about dealing k c)) →
      (fuel : ℕ) (k : S) (next : Next S) → Of P Q next → OfStopped Q (after about dealing fuel k next)
  stop_has P Q each fuel k (stops stop c) is = is
  stop_has P Q each zero k (goes k' c) is = tt
  stop_has P Q each (suc fuel) k (goes k' c) is = stop_has P Q each fuel k' (step about dealing k' c) (each k' c is)

  pub stop_of_has : (P : Config → Type 0) (Q : Stop → Config → Type 0) → ((k : S) (c : Config) → P c → Of P Q (step about dealing k c)) →
      (k : S) (c : Config) (at : Stopped S) → P c → stop_of about dealing k c ≡ Some at → Q at.stop at.config
  stop_of_has P Q each k c at holds is =
      subst (OfStopped Q) is (stop_has P Q each (effort about c) k (step about dealing k c) (each k c holds))

  abbrev Any : Config → Type 0
  Any c = Unit {0}

  there_menu : (k : S) (site : ℕ) (alts : List Alt) (rest : List Part) (table : Table) (control : Control) (items : List Item) →
      menu_from (scene_at about table control.frames) alts ≡ items →
      Of Any (IsAtStop about) (at_menu about dealing k site alts rest table control items)
  there_menu k site alts rest table control [] of = tt
  there_menu k site alts rest table control (first ∷ items) of =
      Of-if Any (IsAtStop about) (nat_le about.turns control.turn) _ _ (λ e. leb-true about.turns control.turn e) (λ e.
      record {
        stands = refl;
        moves = refl;
        below = leb-false about.turns control.turn e;
        alts = alts;
        rest = rest;
        first = refl;
        some = subst (λ (menu : List Item). 0 < length menu) (sym of) (omega arith);
      })

  there_round : (k : S) (s : Stage) (rest : List Part) (table : Table) (control : Control) (b : Bool) →
      Of Any (IsAtStop about) (at_round about dealing k s rest table control b)
  there_round k s rest table control true = tt
  there_round k s rest table control false =
      Of-if Any (IsAtStop about) (nat_le about.turns control.turn) _ _ (λ e. leb-true about.turns control.turn e) (λ e. tt)

  there : (k : S) (left : List Part) (table : Table) (control : Control) → Of Any (IsAtStop about) (first_step about dealing k left table control)
  there k [] table control = refl
  there k (todo (do_item effects) ∷ rest) table control = tt
  there k (todo (stage number class end body) ∷ rest) table control = tt
  there k (todo (choice site alts) ∷ rest) table control = there_menu k site alts rest table control _ refl
  there k (round s ∷ rest) table control = there_round k s rest table control _
  there k (turn s ∷ rest) table control = tt

  pub stops_there : (k : S) (c : Config) (at : Stopped S) → stop_of about dealing k c ≡ Some at → IsAtStop about at.stop at.config
  stops_there k c at is = stop_of_has Any (IsAtStop about) (λ k c holds. there k c.left c.table c.control) k c at tt is

  -- no site but at a decision
  abbrev NoSite : Config → Type 0
  NoSite c = c.control.site ≡ None

  bare_menu : (k : S) (site : ℕ) (alts : List Alt) (rest : List Part) (table : Table) (control : Control) (items : List Item) →
      control.site ≡ None → Of NoSite HasNoSite (at_menu about dealing k site alts rest table control items)
  bare_menu k site alts rest table control [] none = none
  bare_menu k site alts rest table control (first ∷ items) none =
      Of-if NoSite HasNoSite (nat_le about.turns control.turn) _ _ (λ e. none) (λ e. tt)

  bare_round : (k : S) (s : Stage) (rest : List Part) (table : Table) (control : Control) (b : Bool) → control.site ≡ None →
      Of NoSite HasNoSite (at_round about dealing k s rest table control b)
  bare_round k s rest table control true none = none
  bare_round k s rest table control false none = Of-if NoSite HasNoSite (nat_le about.turns control.turn) _ _ (λ e. none) (λ e. none)

  bare : (k : S) (left : List Part) (table : Table) (control : Control) → control.site ≡ None →
      Of NoSite HasNoSite (first_step about dealing k left table control)
  bare k [] table control none = none
  bare k (todo (do_item effects) ∷ rest) table control none = none
  bare k (todo (stage number class end body) ∷ rest) table control none = none
  bare k (todo (choice site alts) ∷ rest) table control none = bare_menu k site alts rest table control _ none
  bare k (round s ∷ rest) table control none = bare_round k s rest table control _ none
  bare k (turn s ∷ rest) table control none = none

  pub site_at_decision : (k : S) (c : Config) (at : Stopped S) → c.control.site ≡ None → stop_of about dealing k c ≡ Some at → HasNoSite at.stop at.config
  site_at_decision k c at none is = stop_of_has NoSite HasNoSite (λ k c holds. bare k c.left c.table c.control holds) k c at none is

-- What strategies pick that ask nothing of playouts is what they choose.
use Rattle.std.proofs.Common.{◌≡◌, ℕ, ◌+◌, ◌*◌, Option, slice_index, refl, sym, ap, ◌∙◌, subst}
use Rattle.std.specs.Prelude.{IfSome}
use Rattle.rc_play_spec.specs.About.{About}
use Rattle.rc_play_spec.specs.Control.{Control}
use Rattle.rc_play_spec.specs.Draws.{keyed}
use Rattle.rc_play_spec.specs.Plan.{Strategy, scripted, random, rollout}
use Rattle.rc_play_spec.specs.Strategy.{scripted_item, menu_size}
use Rattle.rc_play_spec.specs.View.{View}
use Rattle.rc_match.specs.Chosen.{IsOffhand}
use Rattle.rc_rules.specs.Offhand.{offhand_of}
use Rattle.rc_match.proofs.NeedLemmas.{need}

pub offhand_chosen : (about : About) (s : Strategy) (seed size : ℕ) (view : View) (item : Option ℕ) → size ≡ menu_size about view →
    item ≡ offhand_of s seed view.seat view.control size → IfSome item (IsOffhand (need about s seed size view))
offhand_chosen about (scripted numbers) seed size view item sized is =
    subst (λ o. IfSome o (IsOffhand (need about (scripted numbers) seed size view))) (sym is)
    (refl, ap (scripted_item numbers (slice_index view.control.made view.seat)) sized)
offhand_chosen about (random key) seed size view item sized is =
    subst (λ o. IfSome o (IsOffhand (need about (random key) seed size view))) (sym is)
    (refl, ap (keyed.pick key (256 * view.seat + 2) seed view.control.turn) sized)
offhand_chosen about (rollout rounds key) seed size view item sized is =
    subst (λ o. IfSome o (IsOffhand (need about (rollout rounds key) seed size view))) (sym is) tt

pub same_offhand : (s s' : Strategy) (n n' seat : ℕ) (k k' : Control) (size size' : ℕ) → s ≡ s' → n ≡ n' → k ≡ k' → size ≡ size' →
    offhand_of s n seat k size ≡ offhand_of s' n' seat k' size'
same_offhand s s' n n' seat k k' size size' e1 e2 e3 e4 =
    ap (λ x. offhand_of x n seat k size) e1 ∙ ap (λ x. offhand_of s' x seat k size) e2
    ∙ ap (λ x. offhand_of s' n' seat x size) e3 ∙ ap (offhand_of s' n' seat k') e4

-- The menu that a state keeps.
use Rattle.std.proofs.Common.{◌≡◌, ℕ, ◌<◌, Bool, true, false, List, [], length, Option, Some, sym, ap, ◌∙◌, subst, true≢false}
use Rattle.std.specs.Prelude.{unwrap_or, slice_index_or}
use Rattle.std.proofs.lemmas.List.{length-map, get_or-map}
use Rattle.rc_sheet_spec.specs.Sheet.{Alt, SheetItem, choice}
use Rattle.rc_play_spec.specs.About.{About, scene_at, menu_at}
use Rattle.rc_play_spec.specs.Menu.{menu_from}
use Rattle.rc_rules.specs.Control.{control_seen, frames_seen}
use Rattle.rc_rules.specs.declared.menu.Item.{Item}
use Rattle.rc_rules.specs.Machine.{StopsAtDecision, menu_here}
use Rattle.rc_rules.specs.Menu.{item_seen, menu_seen}
use Rattle.rc_plain.specs.Paths.{item_at}
use Rattle.rc_plain.specs.Plain.{Plain, chosen_item}
use Rattle.rc_plain.specs.State.{IsOffered, IsReady, plain_of, config_at}
use Rattle.rc_plain.specs.declared.state.PlainState.{PlainState}

-- WHICH SITE IS NEXT

abbrev is_choice : Option SheetItem → Bool
is_choice (Some (choice site alts)) = true
is_choice other = false

abbrev site_in : Option SheetItem → ℕ
site_in (Some (choice site alts)) = site
site_in other = 0

-- where no choice is next, none is offered
pub not_offered : (m : Plain) (site : ℕ) (o : Option SheetItem) → IsOffered m site → item_at m.about.sheet m.path ≡ o →
    is_choice o ≡ false → ⊥
not_offered m site o offered is none = true≢false (sym (ap is_choice offered.there) ∙ ap is_choice is ∙ none)

-- the choice that is next is the one that is offered
pub one_site : (m : Plain) (site other : ℕ) (alts : List Alt) → item_at m.about.sheet m.path ≡ Some (choice site alts) →
    IsOffered m other → site ≡ other
one_site m site other alts is offered = ap site_in (sym is ∙ offered.there)

-- AT A DECISION

-- the menu that is kept is the one of the decision
pub kept_here : (about : About) (state : PlainState) → IsReady about state →
    StopsAtDecision about (config_at about state) →
    menu_seen state.menu.items ≡ menu_here about (config_at about state)
kept_here about state ready decision =
    let stands = decision.2.decision.stands in
    let kept = ready.kept decision.1 stands in
    kept.menu ∙ ap (λ o. menu_at about (unwrap_or o 0) state.board.laid.table (control_seen state.control)) (sym stands)

-- and has as many items
pub so_many : (about : About) (state : PlainState) → IsReady about state →
    StopsAtDecision about (config_at about state) →
    length state.menu.items ≡ length (menu_here about (config_at about state))
so_many about state ready decision =
    sym (length-map state.menu.items item_seen) ∙ ap length (kept_here about state ready decision)

-- the item at a place of it is the chosen one
pub item_kept : (about : About) (state : PlainState) → IsReady about state →
    (decision : StopsAtDecision about (config_at about state)) →
    (alts : List Alt) →
    ((site : ℕ) (others : List Alt) → item_at about.sheet state.path ≡ Some (choice site others) → alts ≡ others) →
    (place : ℕ) → place < length (menu_here about (config_at about state)) → (item : Item) →
    item ≡ slice_index_or state.menu.items place item →
    chosen_item (plain_of about state) alts place ≡ item_seen item
item_kept about state ready decision alts are place offered item is =
    let kept = ready.kept decision.1 decision.2.decision.stands in
    let menu = kept.menu
    ∙ ap (menu_from (scene_at about state.board.laid.table (frames_seen state.control.frames.items)))
    (sym (are decision.1 _ kept.offered.there)) in
    let within = subst (λ n. place < n) (sym (so_many about state ready decision)) offered in
    ap (λ items. slice_index_or items place (record { alt = 0; spots = [] })) (sym menu)
    ∙ get_or-map item_seen state.menu.items place item (record { alt = 0; spots = [] }) within ∙ ap item_seen (sym is)

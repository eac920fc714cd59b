-- The menu that a state keeps.
use Rattle.std.proofs.Common.{◌≡◌, ℕ, ◌<◌, false, List, [], length, slice_get, Option, Some, sym, ap, ◌∙◌, subst}
use Rattle.std.specs.Prelude.{unwrap_or, slice_index_or}
use Rattle.std.proofs.lemmas.List.{length-map, get_or-map}
use Rattle.rc_sheet_spec.specs.Sheet.{Alt}
use Rattle.rc_play_spec.specs.About.{About, scene_at, menu_at}
use Rattle.rc_play_spec.specs.Menu.{menu_from}
use Rattle.rc_rules.specs.Control.{control_seen, frames_seen}
use Rattle.rc_rules.specs.declared.menu.Item.{Item}
use Rattle.rc_play_spec.specs.Step.{Stop, decide, is_done, is_limit}
use Rattle.rc_play_spec.specs.Fits.{IsAtStop}
use Rattle.rc_rules.specs.Machine.{StopsAtDecision, IsWhereItStops, menu_here}
use Rattle.rc_rules.specs.Menu.{item_seen, menu_seen}
use Rattle.rc_code.specs.Instruction.{Block, Instruction, offer}
use Rattle.rc_flat.specs.Flat.{chosen_item}
use Rattle.rc_flat.specs.State.{IsReady, flat_of, config_at}
use Rattle.rc_flat.specs.declared.state.State.{State}

abbrev alts_in : Option Instruction → List Alt
alts_in (Some (offer site alts blocks inside)) = alts
alts_in other = []

module _ (about : About) (code : List Instruction) (state : State) (ready : IsReady about code state)
    (decision : StopsAtDecision about (config_at about code state)) where
  -- the menu that is kept is the one of the decision
  pub kept_here : menu_seen state.menu.items ≡ menu_here about (config_at about code state)
  kept_here =
      let stands = decision.2.decision.stands in
      let kept = ready.kept decision.1 stands in
      kept.menu ∙ ap (λ o. menu_at about (unwrap_or o 0) state.board.laid.table (control_seen state.control)) (sym stands)

  -- and has as many items
  pub so_many : length state.menu.items ≡ length (menu_here about (config_at about code state))
  so_many = sym (length-map state.menu.items item_seen) ∙ ap length kept_here

  -- no round is next
  pub stands_here : state.place.at_round ≡ false
  stands_here = (ready.kept decision.1 decision.2.decision.stands).offered.here

  -- the item at a place of it is the chosen one
  pub item_kept : (site : ℕ) (alts : List Alt) (blocks : List Block) (inside : ℕ) → slice_get code state.place.next ≡ Some (offer site alts blocks inside) →
      (place : ℕ) → place < length (menu_here about (config_at about code state)) → (item : Item) → item ≡ slice_index_or state.menu.items place item →
      chosen_item (flat_of about code state) alts place ≡ item_seen item
  item_kept site alts blocks inside here place offered item is =
      let kept = ready.kept decision.1 decision.2.decision.stands in
      let menu = kept.menu
      ∙ ap (menu_from (scene_at about state.board.laid.table (frames_seen state.control.frames.items))) (ap alts_in (sym kept.offered.there ∙ here)) in
      let within = subst (λ n. place < n) (sym so_many) offered in
      ap (λ items. slice_index_or items place (record { alt = 0; spots = [] })) (sym menu)
      ∙ get_or-map item_seen state.menu.items place item (record { alt = 0; spots = [] }) within ∙ ap item_seen (sym is)

-- where a match stops at a decision, something is offered
pub stands_there : (about : About) (code : List Instruction) (state : State) → IsReady about code state → (stop : Stop) →
    IsAtStop about stop (config_at about code state) → IsWhereItStops about stop (config_at about code state)
stands_there about code state ready (decide seat site) there = record { decision = there; offered = (ready.kept site there.stands).offered.some }
stands_there about code state ready is_done there = tt
stands_there about code state ready is_limit there = tt

-- What the items of the menu that a state keeps bind.
use Rattle.std.proofs.Common.{◌≡◌, ℕ, ◌<◌, List, [], map, length, Some, sym, ap, ◌∙◌}
use Rattle.std.specs.Prelude.{unwrap_or, slice_index_or}
use Rattle.rc_sheet_spec.specs.Sheet.{Alt, choice}
use Rattle.rc_play_spec.specs.About.{About, scene_at}
use Rattle.rc_play_spec.specs.ItemBounds.{bound_of}
use Rattle.rc_play_spec.specs.Menu.{Item as PureItem, alts_at, alt_in, bindings_of, menu_from}
use Rattle.rc_rules.specs.Control.{frames_seen}
use Rattle.rc_rules.specs.declared.menu.Item.{Item}
use Rattle.rc_rules.specs.Machine.{StopsAtDecision, bounds_here, menu_here}
use Rattle.rc_plain.specs.Paths.{item_at}
use Rattle.rc_plain.specs.State.{IsReady, config_at}
use Rattle.rc_plain.specs.declared.state.PlainState.{PlainState}
use Rattle.rc_plain.proofs.KeptLemmas.{item_kept}

pub bounds_kept : (about : About) (state : PlainState) → IsReady about state →
    (decision : StopsAtDecision about (config_at about state)) →
    (alts : List Alt) →
    ((site : ℕ) (others : List Alt) → item_at about.sheet state.path ≡ Some (choice site others) → alts ≡ others) →
    (place : ℕ) → place < length (menu_here about (config_at about state)) → (item : Item) →
    item ≡ slice_index_or state.menu.items place item →
    map (bound_of about.shape)
    (bindings_of (scene_at about state.board.laid.table (frames_seen state.control.frames.items)) []
    (alt_in alts item.alt) item.spots.items)
    ≡ bounds_here about place (config_at about state)
bounds_kept about state ready decision alts are place offered item is =
    let stands = decision.2.decision.stands in
    let kept = ready.kept decision.1 stands in
    let scene = scene_at about state.board.laid.table (frames_seen state.control.frames.items) in
    let none : PureItem = record { alt = 0; spots = [] } in
    let same : alts ≡ alts_at about.sheet (unwrap_or state.control.site 0) =
    are decision.1 _ kept.offered.there ∙ ap (λ o. alts_at about.sheet (unwrap_or o 0)) (sym stands) in
    ap (λ (i : PureItem). map (bound_of about.shape) (bindings_of scene [] (alt_in alts i.alt) i.spots))
    (sym (item_kept about state ready decision alts are place offered item is))
    ∙ ap (λ alts. map (bound_of about.shape)
    (bindings_of scene [] (alt_in alts (slice_index_or (menu_from scene alts) place none).alt)
    (slice_index_or (menu_from scene alts) place none).spots)) same

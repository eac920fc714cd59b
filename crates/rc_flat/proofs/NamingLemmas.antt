-- What the items of the menu that a state keeps bind.
use Rattle.std.proofs.Common.{◌≡◌, ℕ, ◌<◌, List, [], map, length, slice_get, Option, Some, sym, ap, ◌∙◌}
use Rattle.std.specs.Prelude.{unwrap_or, slice_index_or}
use Rattle.rc_sheet_spec.specs.Sheet.{Alt}
use Rattle.rc_play_spec.specs.About.{About, scene_at}
use Rattle.rc_play_spec.specs.ItemBounds.{bound_of}
use Rattle.rc_play_spec.specs.Menu.{Item as PureItem, alts_at, alt_in, bindings_of, menu_from}
use Rattle.rc_rules.specs.Control.{frames_seen}
use Rattle.rc_rules.specs.declared.menu.Item.{Item}
use Rattle.rc_rules.specs.Machine.{StopsAtDecision, bounds_here, menu_here}
use Rattle.rc_code.specs.Instruction.{Block, Instruction, offer}
use Rattle.rc_flat.specs.State.{IsReady, config_at}
use Rattle.rc_flat.specs.declared.state.State.{State}
use Rattle.rc_flat.proofs.KeptLemmas.{item_kept}

abbrev alts_of : Option Instruction → List Alt
alts_of (Some (offer site alts blocks inside)) = alts
alts_of other = []

pub bounds_kept : (about : About) (code : List Instruction) (state : State) → IsReady about code state →
    (decision : StopsAtDecision about (config_at about code state)) → (site : ℕ) (alts : List Alt) (blocks : List Block) (inside : ℕ) →
    slice_get code state.place.next ≡ Some (offer site alts blocks inside) →
    (place : ℕ) → place < length (menu_here about (config_at about code state)) → (item : Item) → item ≡ slice_index_or state.menu.items place item →
    map (bound_of about.shape)
    (bindings_of (scene_at about state.board.laid.table (frames_seen state.control.frames.items)) [] (alt_in alts item.alt) item.spots.items)
    ≡ bounds_here about place (config_at about code state)
bounds_kept about code state ready decision site alts blocks inside here place offered item is =
    let stands = decision.2.decision.stands in
    let kept = ready.kept decision.1 stands in
    let scene = scene_at about state.board.laid.table (frames_seen state.control.frames.items) in
    let none : PureItem = record { alt = 0; spots = [] } in
    let same : alts ≡ alts_at about.sheet (unwrap_or state.control.site 0) =
    ap alts_of (sym here ∙ kept.offered.there) ∙ ap (λ o. alts_at about.sheet (unwrap_or o 0)) (sym stands) in
    ap (λ (i : PureItem). map (bound_of about.shape) (bindings_of scene [] (alt_in alts i.alt) i.spots))
    (sym (item_kept about code state ready decision site alts blocks inside here place offered item is))
    ∙ ap (λ alts. map (bound_of about.shape)
    (bindings_of scene [] (alt_in alts (slice_index_or (menu_from scene alts) place none).alt) (slice_index_or (menu_from scene alts) place none).spots)) same

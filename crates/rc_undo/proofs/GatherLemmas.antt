-- Cards that went together come back.
use Rattle.std.proofs.Common.{◌≡◌, ℕ, ◌<◌, false, List, [], length, get_or, set, replicate, sym, ap, ap₂, ◌∙◌, subst}
use Rattle.std.specs.Prelude.{slice_index, All}
use Rattle.std.proofs.lemmas.List.{set-set, set_comm, set-get_or}
use Rattle.rc_sheet_spec.specs.Sheet.{End}
use Rattle.rc_play_spec.specs.Shape.{Shape}
use Rattle.rc_play_spec.specs.Bound.{HoldsCards}
use Rattle.rc_play_spec.specs.Table.{Table, IsSound, list_at, loc_of, marks_of}
use Rattle.rc_play_spec.specs.TableLaws.{PutKeepsSound}
use Rattle.rc_table.specs.Shape.{IsShape}
use Rattle.rc_table.specs.Runs.{put_each, left_out, all_added, AreFresh}
use Rattle.rc_table.proofs.RunEdits.{is_final}
use Rattle.rc_undo.specs.Undo.{gathered, undone}
use Rattle.rc_undo.proofs.UndoLemmas.{where_it_is}
use Rattle.rc_undo.proofs.OrderLemmas.{none_cleared}

-- two lists that were others are put back
lists_back : (lists : List (List ℕ)) (from to : ℕ) (list other : List ℕ) → (from ≡ to → ⊥) →
    set (set (set (set lists from list) to other) from (get_or lists from [])) to (get_or lists to []) ≡ lists
lists_back lists from to list other apart =
    ap (λ xs. set xs to (get_or lists to []))
    (ap (λ xs. set xs from (get_or lists from [])) (set_comm lists from to list other apart)
    ∙ set-set (set lists to other) from list (get_or lists from [])
    ∙ sym (set_comm lists from to (get_or lists from []) other apart)
    ∙ ap (λ xs. set xs to other) (set-get_or lists from []))
    ∙ set-set lists to other (get_or lists to []) ∙ set-get_or lists to []

pub gathered_back : PutKeepsSound → (shape : Shape) (t : Table) → IsShape shape → IsSound shape t → (end : End) (from loc : ℕ) (ids : List ℕ) → 0 < length ids →
    All (λ id. id < length shape.faces) ids → HoldsCards shape loc → All (λ id. loc_of shape t id ≡ from) ids → AreFresh (replicate 512 false) ids →
    (from ≡ loc → ⊥) → ((k : ℕ) → k < length ids → marks_of t.marks (slice_index ids k) ≡ []) →
    undone (gathered from (list_at t from) loc (list_at t loc)) (put_each shape end loc ids t) ≡ t
gathered_back keeps shape t limits sound end from loc ids some cards holds are fresh apart unmarked =
    let out = set t.lists from (left_out ids (list_at t from)) in
    ap (undone (gathered from (list_at t from) loc (list_at t loc))) (is_final keeps shape t limits sound end from loc ids some cards holds are fresh)
    ∙ ap₂ (λ (lists : List (List ℕ)) (marks : List (List ℕ)). record { lists = lists; numbers = t.numbers; marks = marks })
    (lists_back t.lists from loc (left_out ids (list_at t from)) (all_added end ids (get_or out loc [])) apart) (none_cleared ids t.marks unmarked)

-- the first one's location is there
pub from_is : (shape : Shape) (t : Table) (from : ℕ) (ids : List ℕ) → IsSound shape t → 0 < length ids → All (λ id. id < length shape.faces) ids →
    All (λ id. loc_of shape t id ≡ from) ids → from < length shape.places
from_is shape t from ids sound some cards are =
    subst (λ l. l < length shape.places) (are 0 0 some) (where_it_is shape t (slice_index ids 0) sound (cards 0 0 some)).1

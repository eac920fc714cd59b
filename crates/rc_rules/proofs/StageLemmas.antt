-- Passing the stages of a sheet, and the innermost of the frames.
use Rattle.std.proofs.Common.{◌≡◌, ℕ, zero, suc, ◌+◌, ◌-◌, arith, ◌<◌, List, [], ◌∷◌, ◌++◌, length, get_or, drop, slice_get, Vec, Global, Bool, true, false, if◌then◌else◌, Some, option_map, unwrap_or, filter, append-nil, ControlFlow, Break, Continue, refl, ap, sym, ◌∙◌}
use Rattle.std.specs.ControlFlow.{break_value}
use Rattle.rc_sheet_spec.specs.Sheet.{Class}
use Rattle.std.proofs.lemmas.List.{map-append}
use Rattle.std.proofs.lemmas.List.Elements.{filter-append}
use Rattle.rc_play_spec.specs.Ends.{last_of}
use Rattle.rc_play_spec.specs.Control.{Frame as PureFrame}
use Rattle.rc_play_spec.specs.Owners.{classes_in, classes_in_item, is_stage_of, current_in}
use Rattle.rc_sheet_spec.specs.Sheet.{Sheet}
use Rattle.rc_ast.specs.declared.expressions.Test.{Test}
use Rattle.rc_ast.specs.declared.items.SheetItem.{SheetItem, Stage}
use Rattle.rc_ast.specs.Items.{item_seen, items_seen}
use Rattle.rc_ast.proofs.ViewLemmas.{stage_seen, items_seen-drop}
use Rattle.rc_rules.specs.Stages.{passed}
use Rattle.rc_rules.specs.Control.{frame_seen, frames_seen}
use Rattle.rc_rules.specs.declared.control.Frame.{Frame}

-- passing one list and then another
abbrev pub passed_then : ControlFlow Class ℕ → List Class → ControlFlow Class ℕ
passed_then (Break class) classes = Break class
passed_then (Continue number) classes = passed classes number

pub passed_append : (xs ys : List Class) (number : ℕ) → passed (xs ++ ys) number ≡ passed_then (passed xs number) ys
passed_append [] ys number = refl
passed_append (x ∷ xs) ys zero = refl
passed_append (x ∷ xs) ys (suc number) = passed_append xs ys number

-- the stage that is come to
pub found_at : (classes : List Class) (number : ℕ) → break_value (passed classes number) ≡ slice_get classes number
found_at [] number = refl
found_at (class ∷ classes) zero = refl
found_at (class ∷ classes) (suc number) = found_at classes number

-- a stage comes before those of its body
pub stage_classes : (i : SheetItem) (number : ℕ) (class : Class) (end : Test) (body : Vec SheetItem Global) →
    i ≡ Stage number class end body → classes_in_item (item_seen i) ≡ class ∷ classes_in (items_seen body.items)
stage_classes i number class end body is =
    ap (λ j. classes_in_item (item_seen j)) is ∙ ap classes_in_item (stage_seen number class end body)

pub passed_body : (i : SheetItem) (number number' : ℕ) (class : Class) (end : Test) (body : Vec SheetItem Global) →
    i ≡ Stage number' class end body → (number ≡ 0 → ⊥) →
    passed (classes_in (items_seen body.items)) (number - 1) ≡ passed (classes_in_item (item_seen i)) number
passed_body i zero number' class end body is some = absurd (some refl)
passed_body i (suc number) number' class end body is some =
    let less : suc number - 1 ≡ number = omega arith in
    ap (passed (classes_in (items_seen body.items))) less
    ∙ sym (ap (λ classes. passed classes (suc number)) (stage_classes i number' class end body is))

-- what is left to pass from a place on is passed in the item there and then in those behind it
pub passed_drop : (all : List SheetItem) (i : ℕ) (x : SheetItem) (number : ℕ) → i < length all → x ≡ get_or all i x →
    passed (classes_in (items_seen (drop i all))) number
    ≡ passed_then (passed (classes_in_item (item_seen x)) number) (classes_in (items_seen (drop (i + 1) all)))
passed_drop all i x number lt is =
    ap (λ items. passed (classes_in items) number) (items_seen-drop all i x lt is)
    ∙ passed_append (classes_in_item (item_seen x)) (classes_in (items_seen (drop (i + 1) all))) number

-- the last of a list and one more is that one
last_behind : {C : Type 0} (xs : List C) (x : C) → last_of (xs ++ x ∷ []) ≡ Some x
last_behind [] x = refl
last_behind (y ∷ []) x = refl
last_behind (y ∷ z ∷ xs) x = last_behind (z ∷ xs) x

-- the member of the last frame that fits: that of the last one, or of those before it
member_last : (p : PureFrame → Bool) (xs : List PureFrame) (x : PureFrame) (b : Bool) → p x ≡ b →
    unwrap_or (option_map (λ (f : PureFrame). f.member) (last_of (filter p xs ++ filter p (x ∷ [])))) 0
    ≡ (if b then x.member else unwrap_or (option_map (λ (f : PureFrame). f.member) (last_of (filter p xs))) 0)
member_last p xs x true is =
    ap (λ c. unwrap_or (option_map (λ (f : PureFrame). f.member) (last_of (filter p xs ++ (if c then x ∷ [] else [])))) 0) is
    ∙ ap (λ o. unwrap_or (option_map (λ (f : PureFrame). f.member) o) 0) (last_behind (filter p xs) x)
member_last p xs x false is =
    ap (λ c. unwrap_or (option_map (λ (f : PureFrame). f.member) (last_of (filter p xs ++ (if c then x ∷ [] else [])))) 0) is
    ∙ ap (λ ys. unwrap_or (option_map (λ (f : PureFrame). f.member) (last_of ys)) 0) (append-nil (filter p xs))

-- the innermost frame is asked first
pub current_in_last : (sheet : Sheet) (class : Class) (frames outer : List Frame) (frame : Frame) (b : Bool) → frames ≡ outer ++ frame ∷ [] →
    is_stage_of sheet class frame.stage ≡ b →
    current_in sheet class (frames_seen frames) ≡ (if b then frame.member else current_in sheet class (frames_seen outer))
current_in_last sheet class frames outer frame b last is =
    let member : List PureFrame → ℕ = λ all. unwrap_or (option_map (λ (f : PureFrame). f.member) (last_of all)) 0 in
    let fits : PureFrame → Bool = λ f. is_stage_of sheet class f.stage in
    ap (λ all. current_in sheet class (frames_seen all)) last
    ∙ ap (λ all. current_in sheet class all) (map-append frame_seen outer (frame ∷ []))
    ∙ ap member (filter-append fits (frames_seen outer) (frame_seen frame ∷ []))
    ∙ member_last fits (frames_seen outer) (frame_seen frame) b is

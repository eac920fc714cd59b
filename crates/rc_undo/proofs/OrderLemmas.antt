-- Marks of a list of cards that come back.
use Rattle.std.proofs.Common.{◌≡◌, ℕ, zero, suc, ◌+◌, ◌<◌, ◌≤◌, ◌==◌, ◌||◌, Bool, true, false, true≢false, List, [], ◌∷◌, length, map, drop, inl, inr, refl, sym, ap, ap₂, ◌∙◌, subst, arith}
use Rattle.std.specs.Prelude.{slice_index, slice_index_or, slice_set, All}
use Rattle.std.specs.List.{list_any}
use Rattle.std.proofs.lemmas.Bool.{cases_lt, or_parts}
use Rattle.std.proofs.lemmas.Bool.Decides.{Decides-eqb}
use Rattle.std.proofs.lemmas.List.{set-get_or, get_or_past, length-set, length-map, drop_all}
use Rattle.rc_play_spec.specs.Shape.{Shape}
use Rattle.rc_play_spec.specs.Table.{Table, IsSound, list_at, marks_of, cleared, reorder}
use Rattle.rc_play_spec.proofs.SoundLemmas.{cleared_sound}
use Rattle.rc_play_spec.proofs.MarkLemmas.{set_marked, set_other, cleared_length}
use Rattle.rc_table.specs.Marks.{seats_in}
use Rattle.rc_table.specs.Laid.{Laid, relaid}
use Rattle.rc_table.specs.Restored.{relisted}
use Rattle.rc_table.proofs.WhereaboutLemmas.{all_cards}
use Rattle.rc_undo.specs.Undo.{ordered, marked_as, all_marked, MayMark}
use Rattle.rc_undo.specs.Past.{AreMarks}
use Rattle.rc_undo.proofs.UndoLemmas.{ComesBack, list_back, may_mark}

-- ONE BY ONE

-- one card more is marked
pub all_marked_step : (ids bytes : List ℕ) (k : ℕ) (t : Table) → k < length bytes → length bytes ≤ length ids →
    all_marked (drop k ids) (drop k bytes) t ≡ all_marked (drop (k + 1) ids) (drop (k + 1) bytes) (marked_as (slice_index ids k) (slice_index bytes k) t)
all_marked_step [] bytes k t less few = absurd (omega (arith, less, few))
all_marked_step (id ∷ ids) [] k t less few = absurd (omega (arith, less))
all_marked_step (id ∷ ids) (byte ∷ bytes) zero t less few = refl
all_marked_step (id ∷ ids) (byte ∷ bytes) (suc k) t less few =
    let next : suc (k + 1) ≡ suc k + 1 = omega arith in
    all_marked_step ids bytes k t (omega (arith, less)) (omega (arith, few))
    ∙ ap (λ n. all_marked (drop n (id ∷ ids)) (drop n (byte ∷ bytes)) (marked_as (slice_index ids k) (slice_index bytes k) t)) next

no_bytes : (ids : List ℕ) (t : Table) → all_marked ids [] t ≡ t
no_bytes [] t = refl
no_bytes (id ∷ ids) t = refl

-- none is left
pub none_left : (ids bytes : List ℕ) (k : ℕ) (t : Table) → length bytes ≤ k → all_marked (drop k ids) (drop k bytes) t ≡ t
none_left ids bytes k t le = ap (λ rest. all_marked (drop k ids) rest t) (drop_all k bytes le) ∙ no_bytes (drop k ids) t

-- MARKS ALONE

abbrev marks_set : (ids bytes : List ℕ) → List (List ℕ) → List (List ℕ)
marks_set [] bytes marks = marks
marks_set (id ∷ ids) [] marks = marks
marks_set (id ∷ ids) (byte ∷ bytes) marks = marks_set ids bytes (slice_set marks id (seats_in byte))

set_length : (ids bytes : List ℕ) (marks : List (List ℕ)) → length (marks_set ids bytes marks) ≡ length marks
set_length [] bytes marks = refl
set_length (id ∷ ids) [] marks = refl
set_length (id ∷ ids) (byte ∷ bytes) marks = set_length ids bytes (slice_set marks id (seats_in byte)) ∙ length-set marks id (seats_in byte)

only_marks : (ids bytes : List ℕ) (t : Table) → all_marked ids bytes t ≡ record { lists = t.lists; numbers = t.numbers; marks = marks_set ids bytes t.marks }
only_marks [] bytes t = refl
only_marks (id ∷ ids) [] t = refl
only_marks (id ∷ ids) (byte ∷ bytes) t = only_marks ids bytes (marked_as id byte t)

differ : (i j : ℕ) → (i == j) ≡ false → i ≡ j → ⊥
differ i j is same = true≢false (sym ((Decides-eqb i j).1 same) ∙ is)

same_lists : (xs ys : List (List ℕ)) → length xs ≡ length ys → ((j : ℕ) → slice_index_or xs j [] ≡ slice_index_or ys j []) → xs ≡ ys
same_lists [] [] long each = refl
same_lists [] (y ∷ ys) long each = absurd (omega (arith, long))
same_lists (x ∷ xs) [] long each = absurd (omega (arith, long))
same_lists (x ∷ xs) (y ∷ ys) long each = ap₂ ◌∷◌ (each 0) (same_lists xs ys (omega (arith, long)) (λ j. each (suc j)))

-- other cards keep theirs
others_keep : (ids : List ℕ) (marks : List (List ℕ)) (j : ℕ) → list_any (λ other. other == j) ids ≡ false → marks_of (cleared ids marks) j ≡ marks_of marks j
others_keep [] marks j none = refl
others_keep (id ∷ ids) marks j none =
    let two = or_parts (id == j) (list_any (λ other. other == j) ids) none in
    others_keep ids (slice_set marks id []) j two.1 ∙ set_other marks id j [] (differ id j two.0)

pub none_cleared : (ids : List ℕ) (marks : List (List ℕ)) → ((k : ℕ) → k < length ids → marks_of marks (slice_index ids k) ≡ []) → cleared ids marks ≡ marks
none_cleared [] marks none = refl
none_cleared (id ∷ ids) marks none =
    let first : slice_set marks id [] ≡ marks = ap (slice_set marks id) (sym (none 0 (omega arith))) ∙ set-get_or marks id [] in
    ap (cleared ids) first ∙ none_cleared ids marks (λ k less. none (suc k) (omega (arith, less)))

-- the bytes of cards say their marks
each_is : (marks : List (List ℕ)) (ids bytes : List ℕ) → map seats_in bytes ≡ map (marks_of marks) ids → (k : ℕ) → k < length bytes →
    seats_in (slice_index bytes k) ≡ marks_of marks (slice_index ids k)
each_is marks ids [] is k less = absurd (omega (arith, less))
each_is marks [] (byte ∷ bytes) is k less = let long = ap length is in absurd (omega (arith, long))
each_is marks (id ∷ ids) (byte ∷ bytes) is zero less = ap (λ xs. slice_index_or xs 0 []) is
each_is marks (id ∷ ids) (byte ∷ bytes) is (suc k) less = each_is marks ids bytes (ap (drop 1) is) k (omega (arith, less))

now_is : (marks ms : List (List ℕ)) (id byte : ℕ) → length ms ≡ length marks → seats_in byte ≡ marks_of marks id →
    marks_of (slice_set ms id (seats_in byte)) id ≡ marks_of marks id
now_is marks ms id byte long is = elim (cases_lt id (length ms)) [
  | inl within ↦ set_marked ms id (seats_in byte) within ∙ is
  | inr past ↦
      let same = length-set ms id (seats_in byte) in
      get_or_past (slice_set ms id (seats_in byte)) id [] (omega (arith, past, same)) ∙ sym (get_or_past marks id [] (omega (arith, past, long)))
]

restored : (marks ms : List (List ℕ)) (ids bytes : List ℕ) → length ms ≡ length marks → map seats_in bytes ≡ map (marks_of marks) ids →
    ((j : ℕ) → list_any (λ other. other == j) ids ≡ false → marks_of ms j ≡ marks_of marks j) → (j : ℕ) → marks_of (marks_set ids bytes ms) j ≡ marks_of marks j
restored marks ms [] bytes long is old j = old j refl
restored marks ms (id ∷ ids) [] long is old j = let none = ap length is in absurd (omega (arith, none))
restored marks ms (id ∷ ids) (byte ∷ bytes) long is old j =
    let now = slice_set ms id (seats_in byte) in
    restored marks now ids bytes (length-set ms id (seats_in byte) ∙ long) (ap (drop 1) is) (λ j none. at j none (id == j) refl) j where
      at : (j : ℕ) → list_any (λ other. other == j) ids ≡ false → (b : Bool) → (id == j) ≡ b → marks_of (slice_set ms id (seats_in byte)) j ≡ marks_of marks j
      at j none true e =
          subst (λ i. marks_of (slice_set ms id (seats_in byte)) i ≡ marks_of marks i) ((Decides-eqb id j).0 e)
          (now_is marks ms id byte long (ap (λ xs. slice_index_or xs 0 []) is))
      at j none false e =
          set_other ms id j (seats_in byte) (differ id j e) ∙ old j (ap (λ b. b || list_any (λ other. other == j) ids) e ∙ none)

marks_again : (marks : List (List ℕ)) (ids bytes : List ℕ) → AreMarks marks ids bytes → marks_set ids bytes (cleared ids marks) ≡ marks
marks_again marks ids [] are = none_set ids (cleared ids marks) ∙ none_cleared ids marks are where
  none_set : (ids : List ℕ) (ms : List (List ℕ)) → marks_set ids [] ms ≡ ms
  none_set [] ms = refl
  none_set (id ∷ ids) ms = refl
marks_again marks ids (byte ∷ bytes) are =
    same_lists _ _ (set_length ids (byte ∷ bytes) (cleared ids marks) ∙ cleared_length ids marks)
    (restored marks (cleared ids marks) ids (byte ∷ bytes) (cleared_length ids marks) are (others_keep ids marks))

-- A LIST

may_all : (shape : Shape) (t : Table) (ids bytes : List ℕ) → IsSound shape t → All (λ id. id < length shape.faces) ids → AreMarks t.marks ids bytes →
    (length bytes ≤ length ids) × ((k : ℕ) → k < length bytes → MayMark shape t (slice_index ids k) (slice_index bytes k))
may_all shape t ids [] sound all are = (omega arith, λ k less. absurd (omega (arith, less)))
may_all shape t ids (byte ∷ bytes) sound all are =
    let one = length-map (byte ∷ bytes) seats_in in
    let two = length-map ids (marks_of t.marks) in
    let three = ap length are in
    let long : length (byte ∷ bytes) ≡ length ids = sym one ∙ three ∙ two in (
      omega (arith, long),
      λ k less. may_mark shape t (slice_index ids k) (slice_index (byte ∷ bytes) k) sound (all k 0 (omega (arith, less, long)))
          (each_is t.marks ids (byte ∷ bytes) are k less),
    )

pub order_comes_back : (shape : Shape) (t : Table) (loc : ℕ) (order bytes : List ℕ) → IsSound shape t → loc < length shape.places →
    length order ≡ length (list_at t loc) → AreMarks t.marks (list_at t loc) bytes → ComesBack shape (ordered loc (list_at t loc) bytes) (reorder loc order t) t
order_comes_back shape t loc order bytes sound within same are =
    let list = list_at t loc in
    let free : Table = record { lists = t.lists; numbers = t.numbers; marks = cleared list t.marks } in
    let locations = sound.locations in
    let bare : relisted loc list (reorder loc order t) ≡ free = list_back t loc order (omega (arith, within, locations)) same in
    let may = may_all shape t list bytes sound (all_cards shape t sound loc) are in (
      ap (all_marked list bytes) bare ∙ only_marks list bytes free
          ∙ ap (λ marks. record { lists = t.lists; numbers = t.numbers; marks = marks }) (marks_again t.marks list bytes are),
      (
        subst (IsSound shape) (sym bare) (cleared_sound shape t list sound),
        may.0,
        λ k less. subst (λ (u : Table). MayMark shape u (slice_index list k) (slice_index bytes k)) (sym bare) (may.1 k less),
      ),
    )

-- BYTES OF MARKS

pub one_more_none : (marks : List (List ℕ)) (ids : List ℕ) (at byte : ℕ) → ((k : ℕ) → k < at → marks_of marks (slice_index ids k) ≡ []) → byte ≡ 0 →
    seats_in byte ≡ marks_of marks (slice_index ids at) → (k : ℕ) → k < at + 1 → marks_of marks (slice_index ids k) ≡ []
one_more_none marks ids at byte old none is k less = elim (cases_lt k at) [
  | inl before ↦ old k before
  | inr past ↦
      let here : at ≡ k = omega (arith, past, less) in
      let no_seats : seats_in 0 ≡ [] = refl in
      subst (λ i. marks_of marks (slice_index ids i) ≡ []) here (sym is ∙ ap seats_in none ∙ no_seats)
]

pub are_these : (marks : List (List ℕ)) (ids bytes : List ℕ) → map seats_in bytes ≡ map (marks_of marks) ids → AreMarks marks ids bytes
are_these marks [] [] is = λ k less. absurd (omega (arith, less))
are_these marks (id ∷ ids) [] is = let none = ap length is in absurd (omega (arith, none))
are_these marks ids (byte ∷ bytes) is = is

-- and all are marked
pub all_done : (old new : Laid) (ids bytes : List ℕ) (k : ℕ) → new.shape ≡ old.shape → all_marked (drop k ids) (drop k bytes) new.table ≡ all_marked ids bytes old.table →
    length bytes ≤ k → new ≡ relaid old (all_marked ids bytes old.table)
all_done old new ids bytes k same last le = ap₂ laid_of same (sym (none_left ids bytes k new.table le) ∙ last) where
  laid_of : Shape → Table → Laid
  laid_of shape table = record { shape = shape; table = table }

-- Where each card of a sound table stands, and what an edit makes of what is noted of it.
use Rattle.std.proofs.Common.{◌≡◌, ℕ, zero, suc, ◌+◌, ◌-◌, ◌<◌, ◌≤◌, Bool, true, false, if◌then◌else◌, List, [], ◌∷◌, length, get_or, set, drop, slice_get, Some, ◌⊎◌, inl, inr, refl, sym, ap, ap₂, ◌∙◌, subst, true≢false, arith, length-set}
use Rattle.std.specs.Prelude.{All}
use Rattle.std.proofs.lemmas.Bool.{cases_eq, cases_lt}
use Rattle.std.proofs.lemmas.List.{get_or-set_same, get_or-set_other, get_or-drop, get_or_past, length-drop}
use Rattle.std.proofs.lemmas.List.Elements.{All-get_or, All-nil}
use Rattle.std.proofs.lemmas.List.FromFn.{get_or-map-range_with_len, fill_by_all, length-map-range_with_len}
use Rattle.std.proofs.lemmas.Option.{slice_get-get_or}
use Rattle.rc_sheet_spec.specs.Sheet.{game_class, vloc}
use Rattle.rc_play_spec.specs.Shape.{Shape, holds_references}
use Rattle.rc_play_spec.specs.Table.{Table, IsSound, list_at, place_of}
use Rattle.rc_play_spec.specs.Bound.{HoldsCards, HoldsReferences}
use Rattle.rc_play_spec.proofs.FoundLemmas.{found, index_found}
use Rattle.rc_table.specs.Whereabouts.{whereabouts, noted, noted_in}
use Rattle.rc_play_spec.proofs.OnePlace.{is_card, one_place}

-- where nothing stands
abbrev pub nowhere : ℕ × ℕ
nowhere = (0, 0)

-- which kind a location is
pub no_references : (shape : Shape) (l : ℕ) → HoldsCards shape l → holds_references (slice_get shape.places l) ≡ false
no_references shape l h = ap holds_references h.1 ∙ h.2

are_cards : (shape : Shape) (l : ℕ) → l < length shape.places → holds_references (slice_get shape.places l) ≡ false → HoldsCards shape l
are_cards shape l less is =
    let place = slice_get-get_or shape.places l (record { kind = vloc; class = game_class; owner = 0 }) less in
    (get_or shape.places l (record { kind = vloc; class = game_class; owner = 0 }), place, sym (ap holds_references place) ∙ is)

pub other_kind : (shape : Shape) (l m : ℕ) → HoldsCards shape l → HoldsReferences shape m → l ≡ m → ⊥
other_kind shape l m h mem same =
    let cards = no_references shape l h in
    let notes = ap holds_references mem.1 ∙ mem.2 in
    true≢false (sym notes ∙ ap (λ n. holds_references (slice_get shape.places n)) (sym same) ∙ cards)

module _ (shape : Shape) (table : Table) (sound : IsSound shape table) where
  -- a card stands where it is found
  pub stands : (id : ℕ) → id < length shape.faces →
      let at = place_of shape table id in
      HoldsCards shape at.0 × (at.1 < length (list_at table at.0)) × (get_or (list_at table at.0) at.1 0 ≡ id)
  stands id card =
      let one = sound.once id card in
      let f = found id shape.places table.lists (omega (arith, one)) in
      let at = place_of shape table id in
      let there = index_found id (list_at table at.0) f.5 in (
        (f.0, slice_get-get_or shape.places at.0 f.0 f.1 ∙ ap Some (sym f.3), f.4),
        there.0,
        there.1,
      )

  -- and is found where it stands
  pub stands_there : (l p : ℕ) → HoldsCards shape l → p < length (list_at table l) → place_of shape table (get_or (list_at table l) p 0) ≡ (l, p)
  stands_there l p h less =
      let id = get_or (list_at table l) p 0 in
      let at = place_of shape table id in
      let s = stands id (is_card shape table sound l p h less) in
      let same = one_place shape table sound id at.0 l at.1 p s.0 h s.1 less s.2 refl in
      ap₂ (λ (l p : ℕ). (l, p)) same.0 same.1

  -- the ids of a list are cards, and there are few
  pub all_cards : (loc : ℕ) → All (λ id. id < length shape.faces) (list_at table loc)
  all_cards loc = elim (cases_lt loc (length table.lists)) [
    | inl within ↦ All-get_or (All (λ id. id < length shape.faces)) table.lists loc [] within sound.ids
    | inr past ↦ subst (All (λ id. id < length shape.faces)) (sym (get_or_past table.lists loc [] past)) (All-nil (λ id. id < length shape.faces))
  ]

-- what is noted of a card
pub noted_of : (shape : Shape) (table : Table) (id : ℕ) → id < length shape.faces → get_or (whereabouts shape table) id nowhere ≡ place_of shape table id
noted_of shape table id card = get_or-map-range_with_len (place_of shape table) 0 (length shape.faces) id id nowhere card (omega arith)

pub noted_all : (shape : Shape) (table : Table) → length (whereabouts shape table) ≡ length shape.faces
noted_all shape table = length-map-range_with_len (place_of shape table) 0 (length shape.faces)

pub all_noted : (shape : Shape) (table : Table) (stand : List (ℕ × ℕ)) → length stand ≡ length shape.faces →
    ((id : ℕ) → id < length shape.faces → get_or stand id nowhere ≡ place_of shape table id) → stand ≡ whereabouts shape table
all_noted shape table stand long each = fill_by_all (place_of shape table) stand (length shape.faces) nowhere long each

pub length-noted : (loc at : ℕ) (ids : List ℕ) (stand : List (ℕ × ℕ)) → length (noted loc at ids stand) ≡ length stand
length-noted loc at [] stand = refl
length-noted loc at (id ∷ ids) stand = length-noted loc (at + 1) ids (set stand id (loc, at)) ∙ length-set stand id (loc, at)

-- notes that are right, each of its card
module _ (right : ℕ → ℕ × ℕ) where
  abbrev Right : List (ℕ × ℕ) → ℕ → Type 0
  Right stand id = get_or stand id nowhere ≡ right id

  abbrev AllRight : ℕ → ℕ → List ℕ → Type 0
  AllRight loc at ids = (k : ℕ) → k < length ids → right (get_or ids k 0) ≡ (loc, at + k)

  first_right : (loc at i : ℕ) (ids : List ℕ) → AllRight loc at (i ∷ ids) → right i ≡ (loc, at)
  first_right loc at i ids all = all 0 (omega arith) ∙ ap (λ n. (loc, n)) (let e : at + 0 ≡ at = omega arith in e)

  rest_right : (loc at i : ℕ) (ids : List ℕ) → AllRight loc at (i ∷ ids) → AllRight loc (at + 1) ids
  rest_right loc at i ids all k less =
      all (suc k) (omega (arith, less)) ∙ ap (λ n. (loc, n)) (let e : at + suc k ≡ at + 1 + k = omega arith in e)

  set_right : (stand : List (ℕ × ℕ)) (i id : ℕ) (x : ℕ × ℕ) → id < length stand → right i ≡ x → ((id ≡ i → ⊥) → Right stand id) → Right (set stand i x) id
  set_right stand i id x within is before = elim (cases_eq id i) [
    | inl same ↦
        ap (λ n. get_or (set stand i x) n nowhere) same ∙ get_or-set_same stand i x nowhere (subst (λ n. n < length stand) same within) ∙ sym is
        ∙ ap right (sym same)
    | inr other ↦ get_or-set_other stand i id x nowhere other ∙ before other
  ]

  stays_right : (loc at : ℕ) (ids : List ℕ) (stand : List (ℕ × ℕ)) (id : ℕ) → AllRight loc at ids → id < length stand → Right stand id →
      Right (noted loc at ids stand) id
  stays_right loc at [] stand id all within is = is
  stays_right loc at (i ∷ ids) stand id all within is =
      let long = length-set stand i (loc, at) in
      stays_right loc (at + 1) ids (set stand i (loc, at)) id (rest_right loc at i ids all) (omega (arith, within, long))
      (set_right stand i id (loc, at) within (first_right loc at i ids all) (λ other. is))

  becomes_right : (loc at : ℕ) (ids : List ℕ) (stand : List (ℕ × ℕ)) (id k : ℕ) → AllRight loc at ids → id < length stand → k < length ids →
      get_or ids k 0 ≡ id → Right (noted loc at ids stand) id
  becomes_right loc at [] stand id k all within less is = absurd (omega (arith, less))
  becomes_right loc at (i ∷ ids) stand id zero all within less is =
      let long = length-set stand i (loc, at) in
      stays_right loc (at + 1) ids (set stand i (loc, at)) id (rest_right loc at i ids all) (omega (arith, within, long))
      (set_right stand i id (loc, at) within (first_right loc at i ids all) (λ other. absurd (other (sym is))))
  becomes_right loc at (i ∷ ids) stand id (suc k) all within less is =
      let long = length-set stand i (loc, at) in
      becomes_right loc (at + 1) ids (set stand i (loc, at)) id k (rest_right loc at i ids all) (omega (arith, within, long)) (omega (arith, less)) is

-- a card that a note was right of, or that stands in a location from a place on, is right when that is noted
abbrev pub IsBehind : ℕ → ℕ → ℕ × ℕ → Type 0
IsBehind loc from at = (at.0 ≡ loc) × (from ≤ at.1)

module _ (shape : Shape) (table : Table) (sound : IsSound shape table) where
  row_right : (loc from : ℕ) → holds_references (slice_get shape.places loc) ≡ false →
      AllRight (place_of shape table) loc from (drop from (list_at table loc))
  row_right loc from cards k less =
      let list = list_at table loc in
      let long = length-drop from list in
      let less' : from + k < length list = omega (arith, less, long) in
      let within : loc < length shape.places = elim (cases_lt loc (length table.lists)) [
        | inl within ↦ let same = sound.locations in omega (arith, same, within)
        | inr past ↦ let none = ap length (get_or_past table.lists loc [] past) in absurd (omega (arith, none, less'))
      ] in
      ap (place_of shape table) (get_or-drop from list k 0) ∙ stands_there shape table sound loc (from + k) (are_cards shape loc within cards) less'

  noted_here : (b : Bool) (loc from : ℕ) (stand : List (ℕ × ℕ)) (id : ℕ) → holds_references (slice_get shape.places loc) ≡ b → id < length shape.faces →
      length stand ≡ length shape.faces → (get_or stand id nowhere ≡ place_of shape table id) ⊎ IsBehind loc from (place_of shape table id) →
      get_or (if b then stand else noted loc from (drop from (list_at table loc)) stand) id nowhere ≡ place_of shape table id
  noted_here true loc from stand id kind card long either = elim either [
    | inl is ↦ is
    | inr behind ↦
        absurd (true≢false (sym kind ∙ ap (λ n. holds_references (slice_get shape.places n)) (sym behind.0)
        ∙ no_references shape (place_of shape table id).0 (stands shape table sound id card).0))
  ]
  noted_here false loc from stand id kind card long either =
      let list = list_at table loc in
      let all = row_right loc from kind in
      let within : id < length stand = omega (arith, card, long) in
      elim either [
        | inl is ↦ stays_right (place_of shape table) loc from (drop from list) stand id all within is
        | inr behind ↦
            let at = place_of shape table id in
            let s = stands shape table sound id card in
            let same = ap (list_at table) behind.0 in
            let less : at.1 < length list = subst (λ xs. at.1 < length xs) same s.1 in
            let here : get_or list at.1 0 ≡ id = ap (λ xs. get_or xs at.1 0) (sym same) ∙ s.2 in
            let shorter = length-drop from list in
            let k : from + (at.1 - from) ≡ at.1 = omega (arith, behind.1) in
            becomes_right (place_of shape table) loc from (drop from list) stand id (at.1 - from) all within (omega (arith, less, shorter, behind.1))
            (get_or-drop from list (at.1 - from) 0 ∙ ap (λ n. get_or list n 0) k ∙ here)
      ]

  pub noted_right : (loc from : ℕ) (stand : List (ℕ × ℕ)) (id : ℕ) → id < length shape.faces → length stand ≡ length shape.faces →
      (get_or stand id nowhere ≡ place_of shape table id) ⊎ IsBehind loc from (place_of shape table id) →
      get_or (noted_in shape table.lists loc from stand) id nowhere ≡ place_of shape table id
  noted_right loc from stand id = noted_here (holds_references (slice_get shape.places loc)) loc from stand id refl

length-noted_here : (b : Bool) (loc from : ℕ) (ids : List ℕ) (stand : List (ℕ × ℕ)) → length (if b then stand else noted loc from ids stand) ≡ length stand
length-noted_here true loc from ids stand = refl
length-noted_here false loc from ids stand = length-noted loc from ids stand

pub length-noted_in : (shape : Shape) (lists : List (List ℕ)) (loc from : ℕ) (stand : List (ℕ × ℕ)) → length (noted_in shape lists loc from stand) ≡ length stand
length-noted_in shape lists loc from stand =
    length-noted_here (holds_references (slice_get shape.places loc)) loc from (drop from (get_or lists loc [])) stand

-- What code says, one instruction after the other.
use Rattle.std.proofs.Common.{◌≡◌, ℕ, zero, suc, ◌≤◌, List, [], ◌∷◌, length, take, drop, refl, ap, ◌∙◌, subst, arith}
use Rattle.std.proofs.lemmas.List.{length-take, length-drop}
use Rattle.rc_sheet_spec.specs.Sheet.{Effects, no_effect, effect, when, repeat, for_each, do_item, stage, choice, item, Sheet}
use Rattle.rc_sheet_spec.specs.WellFormed.{Around, AreEffects}
use Rattle.rc_play_spec.specs.About.{About}
use Rattle.rc_play_spec.specs.Scene.{Vars}
use Rattle.rc_play_spec.specs.Effects.{Dealing, Point, does}
use Rattle.rc_code.specs.Instruction.{Instruction, simple, if_true, so_often, one_by_one, do_all, begin_stage, offer, end_body}
use Rattle.rc_code.specs.Meaning.{effects_by, effects_in, first_effects, passed_over, items_by, items_in}

-- ENOUGH STEPS FIND ALL

enough : (n m : ℕ) (code : List Instruction) → length code ≤ n → length code ≤ m → effects_by n code ≡ effects_by m code
enough zero zero code l k = refl
enough zero (suc m) [] l k = refl
enough zero (suc m) (i ∷ code) l k = absurd (omega (arith, l))
enough (suc n) zero [] l k = refl
enough (suc n) zero (i ∷ code) l k = absurd (omega (arith, k))
enough (suc n) (suc m) [] l k = refl
enough (suc n) (suc m) (simple e ∷ code) l k = ap (λ es. effect e es) (enough n m code (omega (arith, l)) (omega (arith, k)))
enough (suc n) (suc m) (if_true test inside ∷ code) l k =
    let front = length-take inside code in
    let back = length-drop inside code in
    ap (λ es. effect (when test es) (effects_by n (drop inside code))) (enough n m (take inside code) (omega (arith, l, front)) (omega (arith, k, front)))
    ∙ ap (λ es. effect (when test (effects_by m (take inside code))) es) (enough n m (drop inside code) (omega (arith, l, back)) (omega (arith, k, back)))
enough (suc n) (suc m) (so_often count inside ∷ code) l k =
    let front = length-take inside code in
    let back = length-drop inside code in
    ap (λ es. effect (repeat count es) (effects_by n (drop inside code))) (enough n m (take inside code) (omega (arith, l, front)) (omega (arith, k, front)))
    ∙ ap (λ es. effect (repeat count (effects_by m (take inside code))) es) (enough n m (drop inside code) (omega (arith, l, back)) (omega (arith, k, back)))
enough (suc n) (suc m) (one_by_one domain bound inside ∷ code) l k =
    let front = length-take inside code in
    let back = length-drop inside code in
    ap (λ es. effect (for_each domain bound es) (effects_by n (drop inside code))) (enough n m (take inside code) (omega (arith, l, front)) (omega (arith, k, front)))
    ∙ ap (λ es. effect (for_each domain bound (effects_by m (take inside code))) es) (enough n m (drop inside code) (omega (arith, l, back)) (omega (arith, k, back)))
enough (suc n) (suc m) (do_all inside ∷ code) l k = enough n m code (omega (arith, l)) (omega (arith, k))
enough (suc n) (suc m) (begin_stage number class end inside ∷ code) l k = enough n m code (omega (arith, l)) (omega (arith, k))
enough (suc n) (suc m) (offer site alts blocks inside ∷ code) l k = enough n m code (omega (arith, l)) (omega (arith, k))
enough (suc n) (suc m) (end_body ∷ code) l k = enough n m code (omega (arith, l)) (omega (arith, k))

front_found : (n inside : ℕ) (code : List Instruction) → length code ≤ n → effects_by n (take inside code) ≡ effects_in (take inside code)
front_found n inside code l = let front = length-take inside code in enough n (length (take inside code)) (take inside code) (omega (arith, l, front)) (omega arith)

back_found : (n inside : ℕ) (code : List Instruction) → length code ≤ n → effects_by n (drop inside code) ≡ effects_in (drop inside code)
back_found n inside code l = let back = length-drop inside code in enough n (length (drop inside code)) (drop inside code) (omega (arith, l, back)) (omega arith)

-- effects before others, of which there is one or none
abbrev pub before : Effects → Effects → Effects
before no_effect es = es
before (effect e rest) es = effect e es

-- the effects of the first instruction, and then those behind what is inside it
pub first_and_rest : (first : Instruction) (code : List Instruction) →
    effects_in (first ∷ code) ≡ before (first_effects first code) (effects_in (drop (passed_over first) code))
first_and_rest (simple e) code = refl
first_and_rest (if_true test inside) code =
    ap (λ es. effect (when test es) (effects_by (length code) (drop inside code))) (front_found (length code) inside code (omega arith))
    ∙ ap (λ es. effect (when test (effects_in (take inside code))) es) (back_found (length code) inside code (omega arith))
first_and_rest (so_often count inside) code =
    ap (λ es. effect (repeat count es) (effects_by (length code) (drop inside code))) (front_found (length code) inside code (omega arith))
    ∙ ap (λ es. effect (repeat count (effects_in (take inside code))) es) (back_found (length code) inside code (omega arith))
first_and_rest (one_by_one domain bound inside) code =
    ap (λ es. effect (for_each domain bound es) (effects_by (length code) (drop inside code))) (front_found (length code) inside code (omega arith))
    ∙ ap (λ es. effect (for_each domain bound (effects_in (take inside code))) es) (back_found (length code) inside code (omega arith))
first_and_rest (do_all inside) code = refl
first_and_rest (begin_stage number class end inside) code = refl
first_and_rest (offer site alts blocks inside) code = refl
first_and_rest end_body code = refl

does_before : {S : Type 0} (about : About) (dealing : Dealing S) (vars : Vars) (first : Instruction) (code : List Instruction) (es : Effects) (now : Point S) →
    does about dealing vars (before (first_effects first code) es) now ≡ does about dealing vars es (does about dealing vars (first_effects first code) now)
does_before about dealing vars (simple e) code es now = refl
does_before about dealing vars (if_true test inside) code es now = refl
does_before about dealing vars (so_often count inside) code es now = refl
does_before about dealing vars (one_by_one domain bound inside) code es now = refl
does_before about dealing vars (do_all inside) code es now = refl
does_before about dealing vars (begin_stage number class end inside) code es now = refl
does_before about dealing vars (offer site alts blocks inside) code es now = refl
does_before about dealing vars end_body code es now = refl

-- what the first instruction does, and then what those behind it do
pub does_first : {S : Type 0} (about : About) (dealing : Dealing S) (vars : Vars) (first : Instruction) (code : List Instruction) (now : Point S) →
    does about dealing vars (effects_in (first ∷ code)) now
    ≡ does about dealing vars (effects_in (drop (passed_over first) code)) (does about dealing vars (first_effects first code) now)
does_first about dealing vars first code now =
    ap (λ es. does about dealing vars es now) (first_and_rest first code)
    ∙ does_before about dealing vars first code (effects_in (drop (passed_over first) code)) now

are_before : (sheet : Sheet) (around : Around) (first : Instruction) (code : List Instruction) (es : Effects) →
    AreEffects sheet around (before (first_effects first code) es) → AreEffects sheet around (first_effects first code) × AreEffects sheet around es
are_before sheet around (simple e) code es are = ((are.0, tt), are.1)
are_before sheet around (if_true test inside) code es are = ((are.0, tt), are.1)
are_before sheet around (so_often count inside) code es are = ((are.0, tt), are.1)
are_before sheet around (one_by_one domain bound inside) code es are = ((are.0, tt), are.1)
are_before sheet around (do_all inside) code es are = (tt, are)
are_before sheet around (begin_stage number class end inside) code es are = (tt, are)
are_before sheet around (offer site alts blocks inside) code es are = (tt, are)
are_before sheet around end_body code es are = (tt, are)

-- the effects of the first instruction are well formed, and those behind it
pub are_first : (sheet : Sheet) (around : Around) (first : Instruction) (code : List Instruction) → AreEffects sheet around (effects_in (first ∷ code)) →
    AreEffects sheet around (first_effects first code) × AreEffects sheet around (effects_in (drop (passed_over first) code))
are_first sheet around first code are =
    are_before sheet around first code (effects_in (drop (passed_over first) code))
    (subst (AreEffects sheet around) (first_and_rest first code) are)

-- THE SAME FOR ITEMS

enough_items : (n m : ℕ) (code : List Instruction) → length code ≤ n → length code ≤ m → items_by n code ≡ items_by m code
enough_items zero zero code l k = refl
enough_items zero (suc m) [] l k = refl
enough_items zero (suc m) (i ∷ code) l k = absurd (omega (arith, l))
enough_items (suc n) zero [] l k = refl
enough_items (suc n) zero (i ∷ code) l k = absurd (omega (arith, k))
enough_items (suc n) (suc m) [] l k = refl
enough_items (suc n) (suc m) (do_all inside ∷ code) l k =
    let back = length-drop inside code in
    ap (λ is. item (do_item (effects_in (take inside code))) is) (enough_items n m (drop inside code) (omega (arith, l, back)) (omega (arith, k, back)))
enough_items (suc n) (suc m) (begin_stage number class end inside ∷ code) l k =
    let back = length-drop inside code in
    ap (λ is. item (stage number class end is) (items_by n (drop inside code))) (enough_items n m code (omega (arith, l)) (omega (arith, k)))
    ∙ ap (λ is. item (stage number class end (items_by m code)) is) (enough_items n m (drop inside code) (omega (arith, l, back)) (omega (arith, k, back)))
enough_items (suc n) (suc m) (offer site alts blocks inside ∷ code) l k =
    let back = length-drop inside code in
    ap (λ is. item (choice site alts) is) (enough_items n m (drop inside code) (omega (arith, l, back)) (omega (arith, k, back)))
enough_items (suc n) (suc m) (simple e ∷ code) l k = refl
enough_items (suc n) (suc m) (if_true test inside ∷ code) l k = refl
enough_items (suc n) (suc m) (so_often count inside ∷ code) l k = refl
enough_items (suc n) (suc m) (one_by_one domain bound inside ∷ code) l k = refl
enough_items (suc n) (suc m) (end_body ∷ code) l k = refl

items_behind : (inside : ℕ) (code : List Instruction) → items_by (length code) (drop inside code) ≡ items_in (drop inside code)
items_behind inside code =
    let back = length-drop inside code in enough_items (length code) (length (drop inside code)) (drop inside code) (omega (arith, back)) (omega arith)

pub items_do : (inside : ℕ) (code : List Instruction) →
    items_in (do_all inside ∷ code) ≡ item (do_item (effects_in (take inside code))) (items_in (drop inside code))
items_do inside code = ap (λ is. item (do_item (effects_in (take inside code))) is) (items_behind inside code)

pub items_stage : (number : ℕ) (class : _) (end : _) (inside : ℕ) (code : List Instruction) →
    items_in (begin_stage number class end inside ∷ code) ≡ item (stage number class end (items_in code)) (items_in (drop inside code))
items_stage number class end inside code = ap (λ is. item (stage number class end (items_in code)) is) (items_behind inside code)

pub items_choice : (site : ℕ) (alts : _) (blocks : _) (inside : ℕ) (code : List Instruction) →
    items_in (offer site alts blocks inside ∷ code) ≡ item (choice site alts) (items_in (drop inside code))
items_choice site alts blocks inside code = ap (λ is. item (choice site alts) is) (items_behind inside code)

-- Reading parts one after the other, as a loop does: what it has read stands in a list, before what is still to be read.
use Rattle.std.proofs.Common.{◌≡◌, ℕ, ◌+◌, ◌≤◌, ◌<◌, List, [], ◌∷◌, ◌++◌, length, map, drop, get_or, Option, Some, None, refl, sym, ap, ◌∙◌}
use Rattle.std.specs.Prelude.{option_map}
use Rattle.std.proofs.lemmas.List.{at_drop_more, drop_all}
use Rattle.rc_base.specs.Tree.{Tree, Trees, nil, cons}
use Rattle.rc_form.specs.Form.{tree_of, trees_of, packed}
use Rattle.rc_form.specs.declared.form.Form.{Form}
use Rattle.rc_sheet.specs.ReadNames.{◌>>=◌, both}

-- the views of a list, each put before what is later
abbrev pub before : {X A L : Type 0} → (X → A) → (A → L → L) → List X → L → L
before seen more [] later = later
before seen more (x ∷ front) later = more (seen x) (before seen more front later)

before-push : {X A L : Type 0} (seen : X → A) (more : A → L → L) (front : List X) (x : X) (later : L)
    → before seen more (front ++ x ∷ []) later ≡ before seen more front (more (seen x) later)
before-push seen more [] x later = refl
before-push seen more (y ∷ front) x later = ap (more (seen y)) (before-push seen more front x later)

-- a list that is made of items one by one
abbrev pub IsListed : {A L : Type 0} → (A → L → L) → (List A → L) → Type 0
IsListed more listed = (a : _) (later : _) → listed (a ∷ later) ≡ more a (listed later)

before-end : {X A L : Type 0} (seen : X → A) (more : A → L → L) (listed : List A → L) → IsListed more listed → (front : List X)
    → before seen more front (listed []) ≡ listed (map seen front)
before-end seen more listed is_listed [] = refl
before-end seen more listed is_listed (x ∷ front) =
    ap (more (seen x)) (before-end seen more listed is_listed front) ∙ sym (is_listed (seen x) (map seen front))

-- the part at an index stands before those that are left
pub part_at : {R : Type 0} (all : Trees → R) (forms : List Form) (i : ℕ) (part : Form) → i < length forms
    → part ≡ get_or forms i part
    → all (packed (trees_of (drop i forms))) ≡ all (cons (tree_of part) (packed (trees_of (drop (i + 1) forms))))
part_at all forms i part lt is =
    at_drop_more (λ left. all (packed (trees_of left))) forms i part lt
    ∙ ap (λ form. all (cons (tree_of form) (packed (trees_of (drop (i + 1) forms))))) (sym is)

-- how parts are read: the first, and the others
abbrev pub InTurn : {A L : Type 0} → (A → L → L) → (Tree → Option A) → (Trees → Option L) → Type 0
InTurn more one all =
    (tree : Tree) (trees : Trees) → all (cons tree trees) ≡ option_map (λ p. more p.0 p.1) (both (one tree) (all trees))

-- what was read stands before what the forms from an index on say
abbrev pub so_far : {X A L : Type 0} → (X → A) → (A → L → L) → (Trees → Option L) → List X → List Form → ℕ → Option L
so_far seen more all front forms i = option_map (before seen more front) (all (packed (trees_of (drop i forms))))

-- what is read first goes behind the front
regroup : {X A L : Type 0} (seen : X → A) (more : A → L → L) (front : List X) (x : X) (later : Option L)
    → option_map (before seen more front) (option_map (λ p. more p.0 p.1) (both (Some (seen x)) later))
    ≡ option_map (before seen more (front ++ x ∷ [])) later
regroup seen more front x (Some later) = ap Some (sym (before-push seen more front x later))
regroup seen more front x None = refl

-- one more part is read
pub goes_on : {X A L : Type 0} (seen : X → A) (more : A → L → L) (one : Tree → Option A) (all : Trees → Option L)
    → InTurn more one all → (front : List X) (forms : List Form) (i : ℕ) (part : Form) (x : X) (total : Option L)
    → i < length forms → part ≡ get_or forms i part → one (tree_of part) ≡ Some (seen x)
    → so_far seen more all front forms i ≡ total → so_far seen more all (front ++ x ∷ []) forms (i + 1) ≡ total
goes_on seen more one all in_turn front forms i part x total lt is read so =
    let later : Trees = packed (trees_of (drop (i + 1) forms)) in
    let opened = ap (option_map (before seen more front)) (part_at all forms i part lt is ∙ in_turn (tree_of part) later) in
    let put = option_map (before seen more front) in
    let first = ap (λ found. put (option_map (λ p. more p.0 p.1) (both found (all later)))) read in
    sym (opened ∙ first ∙ regroup seen more front x (all later)) ∙ so

-- no part is left
pub is_done : {X A L : Type 0} (seen : X → A) (more : A → L → L) (listed : List A → L) (all : Trees → Option L)
    → IsListed more listed → all nil ≡ Some (listed []) → (front : List X) (forms : List Form) (i : ℕ) (total : Option L)
    → length forms ≤ i → so_far seen more all front forms i ≡ total → total ≡ Some (listed (map seen front))
is_done seen more listed all is_listed at_end front forms i total le so =
    let left : drop i forms ≡ [] = drop_all i forms le in
    let put = option_map (before seen more front) in
    sym so
    ∙ ap (λ forms. put (all (packed (trees_of forms)))) left
    ∙ ap put at_end
    ∙ ap Some (before-end seen more listed is_listed front)

-- what is read, changed, and the state behind it
abbrev pub changed : {S A B : Type 0} → (A → B) → A × S → B × S
changed f read = (f read.0, read.1)

-- how parts are read where each leaves a state to those behind it
abbrev pub Threaded : {S A L : Type 0} → (A → L → L) → (S → Tree → Option (A × S)) → (S → Trees → Option (L × S)) → Type 0
Threaded more one all =
    (s : _) (tree : Tree) (trees : Trees)
    → all s (cons tree trees) ≡ (one s tree >>= λ first. option_map (changed (more first.0)) (all first.1 trees))

-- what was read stands before what the forms from an index on say behind this state
abbrev pub so_far_from : {S X A L : Type 0} → (X → A) → (A → L → L) → (S → Trees → Option (L × S))
    → S → List X → List Form → ℕ → Option (L × S)
so_far_from seen more all s front forms i =
    option_map (changed (before seen more front)) (all s (packed (trees_of (drop i forms))))

-- what is read first goes behind the front
regroup_from : {S X A L : Type 0} (seen : X → A) (more : A → L → L) (front : List X) (x : X) (later : Option (L × S))
    → option_map (changed (before seen more front)) (option_map (changed (more (seen x))) later)
    ≡ option_map (changed (before seen more (front ++ x ∷ []))) later
regroup_from seen more front x (Some later) = ap (λ all. Some (all, later.1)) (sym (before-push seen more front x later.0))
regroup_from seen more front x None = refl

-- one more part is read
pub goes_on_from : {S X A L : Type 0} (seen : X → A) (more : A → L → L) (one : S → Tree → Option (A × S))
    (all : S → Trees → Option (L × S)) → Threaded more one all
    → (s after : S) (front : List X) (forms : List Form) (i : ℕ) (part : Form) (x : X) (total : Option (L × S))
    → i < length forms → part ≡ get_or forms i part → one s (tree_of part) ≡ Some (seen x, after)
    → so_far_from seen more all s front forms i ≡ total → so_far_from seen more all after (front ++ x ∷ []) forms (i + 1) ≡ total
goes_on_from seen more one all threaded s after front forms i part x total lt is read so =
    let later : Trees = packed (trees_of (drop (i + 1) forms)) in
    let put = option_map (changed (before seen more front)) in
    let opened = ap put (part_at (all s) forms i part lt is ∙ threaded s (tree_of part) later) in
    let first = ap (λ found. put (found >>= λ first. option_map (changed (more first.0)) (all first.1 later))) read in
    sym (opened ∙ first ∙ regroup_from seen more front x (all after later)) ∙ so

-- no part is left
pub is_done_from : {S X A L : Type 0} (seen : X → A) (more : A → L → L) (listed : List A → L) (all : S → Trees → Option (L × S))
    → IsListed more listed → (s : S) → all s nil ≡ Some (listed [], s) → (front : List X) (forms : List Form) (i : ℕ)
    (total : Option (L × S)) → length forms ≤ i → so_far_from seen more all s front forms i ≡ total
    → total ≡ Some (listed (map seen front), s)
is_done_from seen more listed all is_listed s at_end front forms i total le so =
    let left : drop i forms ≡ [] = drop_all i forms le in
    let put = option_map (changed (before seen more front)) in
    sym so
    ∙ ap (λ forms. put (all s (packed (trees_of forms)))) left
    ∙ ap put at_end
    ∙ ap (λ all. Some (all, s)) (before-end seen more listed is_listed front)

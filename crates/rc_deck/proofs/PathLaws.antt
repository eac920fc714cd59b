-- The products of lists are the faces of all paths, in order.
use Rattle.std.proofs.Common.{◌≡◌, ℕ, zero, suc, ◌*◌, ◌<◌, List, [], ◌∷◌, ◌++◌, ◌⊎◌, inl, inr, ⊎_elim, length, map, refl, sym, ap, ◌∙◌, subst, arith, append_assoc, length-append}
use Rattle.std.proofs.lemmas.List.{length-map}
use Rattle.std.specs.List.{AllZip}
use Rattle.rc_base.specs.Deck.{Groups, no_group, group, Branches, no_branch, branch, Face, Gives, GivesBranch, IsBefore, AreFaces, face_count, branch_count}
use Rattle.rc_deck.specs.Product.{joined, faces_of_groups, faces_of_branches}
use Rattle.rc_deck.proofs.Orders.{In, Contains-from_In, In-from_Contains, In-append_left, In-append_right, In-append_cases, In-map, In-map_source, In-flat_map, In-flat_map_source, Ordered, Ordered-append, Ordered-map, Ordered-weaker, AllPairs-from_Ordered, Ordered-from_AllPairs, Ordered-unique, AllZip-append, AllZip-map, AllZip-map_left, AllZip-flat_map, AllZip-In, AllZip-unique}

-- the same path through the branches where one more branch stands before them
abbrev later : List ℕ → List ℕ
later [] = []
later (position ∷ path) = suc position ∷ path

-- all paths, in order
abbrev mutual
  paths_of_groups : Groups → List (List ℕ)
  paths_of_groups no_group = [] ∷ []
  paths_of_groups (group attr branches rest) = joined (paths_of_branches branches) (paths_of_groups rest)

  paths_of_branches : Branches → List (List ℕ)
  paths_of_branches no_branch = []
  paths_of_branches (branch value inner rest) =
      map (λ below. zero ∷ below) (paths_of_groups inner) ++ map later (paths_of_branches rest)

-- the paths differ, and the first has the smaller choice where they first do
abbrev Turns : List ℕ → List ℕ → Type 0
Turns [] path = ⊥
Turns (choice ∷ path) [] = ⊥
Turns (choice ∷ path) (choice' ∷ path') = (choice < choice') ⊎ ((choice ≡ choice') × Turns path path')

-- such paths are in the order of a dictionary
IsBefore-from_Turns : (p q : List ℕ) → Turns p q → IsBefore p q
IsBefore-from_Turns [] q turns = absurd turns
IsBefore-from_Turns (x ∷ p) [] turns = absurd turns
IsBefore-from_Turns (x ∷ p) (y ∷ q) (inl less) = inl less
IsBefore-from_Turns (x ∷ p) (y ∷ q) (inr same) = inr (same.0, IsBefore-from_Turns p q same.1)

-- and stay so with any ends
Turns-append : (p q r s : List ℕ) → Turns p q → Turns (p ++ r) (q ++ s)
Turns-append [] q r s turns = absurd turns
Turns-append (x ∷ p) [] r s turns = absurd turns
Turns-append (x ∷ p) (y ∷ q) r s (inl less) = inl less
Turns-append (x ∷ p) (y ∷ q) r s (inr same) = inr (same.0, Turns-append p q r s same.1)

-- and behind any one path
Turns-append_same : (p r s : List ℕ) → Turns r s → Turns (p ++ r) (p ++ s)
Turns-append_same [] r s turns = turns
Turns-append_same (x ∷ p) r s turns = inr (refl, Turns-append_same p r s turns)

-- and one branch later
Turns-later : (p q : List ℕ) → Turns p q → Turns (later p) (later q)
Turns-later [] q turns = absurd turns
Turns-later (x ∷ p) [] turns = absurd turns
Turns-later (x ∷ p) (y ∷ q) (inl less) = inl (omega arith)
Turns-later (x ∷ p) (y ∷ q) (inr same) = inr (ap suc same.0, same.1)

-- paths behind paths are in order
Ordered-joined : (firsts seconds : List (List ℕ)) → Ordered Turns firsts → Ordered Turns seconds → Ordered Turns (joined firsts seconds)
Ordered-joined [] seconds left right = tt
Ordered-joined (p ∷ firsts) seconds left right =
    Ordered-append Turns (map (λ s. p ++ s) seconds) (joined firsts seconds)
    (Ordered-map Turns Turns (λ s. p ++ s) (Turns-append_same p) seconds right)
    (Ordered-joined firsts seconds left.1 right)
    (λ x y in-x in-y.
    let a = In-map_source (λ s. p ++ s) x seconds in-x in
    let b = In-flat_map_source (λ first. map (λ s. first ++ s) seconds) y firsts in-y in
    let d = In-map_source (λ s. b.0 ++ s) y seconds b.2 in
    subst (λ z. Turns z y) (sym a.2) (subst (Turns (p ++ a.0)) (sym d.2) (Turns-append p b.0 a.0 d.0 (left.0 b.0 b.1))))

-- a path gives the same face where one more branch stands first
GivesBranch-later : (attr value : ℕ) (inner : Groups) (rest : Branches) (path : List ℕ) (face : Face) →
    GivesBranch attr rest path face → GivesBranch attr (branch value inner rest) (later path) face
GivesBranch-later attr value inner no_branch [] face given = given
GivesBranch-later attr value inner (branch v i r) [] face given = given
GivesBranch-later attr value inner rest (position ∷ path) face given = given

-- each path gives the face at its place
mutual
  Gives-given : (groups : Groups) → AllZip (Gives groups) (paths_of_groups groups) (faces_of_groups groups)
  Gives-given no_group = ((refl, refl), tt)
  Gives-given (group attr branches rest) =
      AllZip-flat_map (GivesBranch attr branches) (Gives (group attr branches rest))
      (λ front. map (λ back. front ++ back) (paths_of_groups rest)) (λ first. map (λ others. first ++ others) (faces_of_groups rest))
      (λ front first by_front. AllZip-map (Gives rest) (Gives (group attr branches rest)) (λ back. front ++ back) (λ others. first ++ others)
      (λ back others by_back. (front, back, first, others, refl, refl, by_front, by_back)) (paths_of_groups rest) (faces_of_groups rest) (Gives-given rest))
      (paths_of_branches branches) (faces_of_branches attr branches) (GivesBranch-given attr branches)

  GivesBranch-given : (attr : ℕ) (branches : Branches) → AllZip (GivesBranch attr branches) (paths_of_branches branches) (faces_of_branches attr branches)
  GivesBranch-given attr no_branch = tt
  GivesBranch-given attr (branch value inner rest) =
      AllZip-append (GivesBranch attr (branch value inner rest))
      (map (λ below. zero ∷ below) (paths_of_groups inner)) (map later (paths_of_branches rest))
      (map (λ below. (attr, value) ∷ below) (faces_of_groups inner)) (faces_of_branches attr rest)
      (AllZip-map (Gives inner) (GivesBranch attr (branch value inner rest)) (λ below. zero ∷ below) (λ below. (attr, value) ∷ below)
      (λ path face given. (face, refl, given)) (paths_of_groups inner) (faces_of_groups inner) (Gives-given inner))
      (AllZip-map_left (GivesBranch attr rest) (GivesBranch attr (branch value inner rest)) later (GivesBranch-later attr value inner rest)
      (paths_of_branches rest) (faces_of_branches attr rest) (GivesBranch-given attr rest))

-- every path is listed
mutual
  Gives-listed : (groups : Groups) (path : List ℕ) (face : Face) → Gives groups path face → In path (paths_of_groups groups)
  Gives-listed no_group path face given = inl given.0
  Gives-listed (group attr branches rest) path face given =
      subst (λ p. In p (joined (paths_of_branches branches) (paths_of_groups rest))) (sym given.4)
      (In-flat_map (λ front. map (λ back. front ++ back) (paths_of_groups rest)) (given.0 ++ given.1) given.0 (paths_of_branches branches)
      (GivesBranch-listed attr branches given.0 given.2 given.6)
      (In-map (λ back. given.0 ++ back) given.1 (paths_of_groups rest) (Gives-listed rest given.1 given.3 given.7)))

  GivesBranch-listed : (attr : ℕ) (branches : Branches) (path : List ℕ) (face : Face) → GivesBranch attr branches path face → In path (paths_of_branches branches)
  GivesBranch-listed attr no_branch path face given = absurd given
  GivesBranch-listed attr (branch value inner rest) [] face given = absurd given
  GivesBranch-listed attr (branch value inner rest) (zero ∷ path) face given =
      In-append_left (zero ∷ path) (map (λ below. zero ∷ below) (paths_of_groups inner)) (map later (paths_of_branches rest))
      (In-map (λ below. zero ∷ below) path (paths_of_groups inner) (Gives-listed inner path given.0 given.2))
  GivesBranch-listed attr (branch value inner rest) (suc position ∷ path) face given =
      In-append_right (suc position ∷ path) (map (λ below. zero ∷ below) (paths_of_groups inner)) (map later (paths_of_branches rest))
      (In-map later (position ∷ path) (paths_of_branches rest) (GivesBranch-listed attr rest (position ∷ path) face given))

-- a path through branches has a first choice
paths_of_branches-nil : (branches : Branches) → In [] (paths_of_branches branches) → ⊥
paths_of_branches-nil no_branch in' = in'
paths_of_branches-nil (branch value inner rest) in' =
    ⊎_elim
    (λ l. let s = In-map_source (λ below. zero ∷ below) [] (paths_of_groups inner) l in nil≢cons zero s.0 s.2)
    (λ r. let s = In-map_source later [] (paths_of_branches rest) r in
    paths_of_branches-nil rest (subst (λ p. In p (paths_of_branches rest)) (later-nil s.0 s.2) s.1))
    (In-append_cases [] (map (λ below. zero ∷ below) (paths_of_groups inner)) (map later (paths_of_branches rest)) in')
  where
    nil≢cons : (x : ℕ) (xs : List ℕ) → [] ≡ x ∷ xs → ⊥
    nil≢cons x xs e = cc

    later-nil : (p : List ℕ) → [] ≡ later p → p ≡ []
    later-nil [] e = refl
    later-nil (x ∷ p) e = absurd (nil≢cons (suc x) p e)

-- the first branch comes before all later ones
Turns-zero_later : (p q : List ℕ) → (q ≡ [] → ⊥) → Turns (zero ∷ p) (later q)
Turns-zero_later p [] some = absurd (some refl)
Turns-zero_later p (x ∷ q) some = inl (omega arith)

-- all paths are in order
mutual
  Ordered-paths_of_groups : (groups : Groups) → Ordered Turns (paths_of_groups groups)
  Ordered-paths_of_groups no_group = (λ y none. absurd none, tt)
  Ordered-paths_of_groups (group attr branches rest) =
      Ordered-joined (paths_of_branches branches) (paths_of_groups rest) (Ordered-paths_of_branches branches) (Ordered-paths_of_groups rest)

  Ordered-paths_of_branches : (branches : Branches) → Ordered Turns (paths_of_branches branches)
  Ordered-paths_of_branches no_branch = tt
  Ordered-paths_of_branches (branch value inner rest) =
      Ordered-append Turns (map (λ below. zero ∷ below) (paths_of_groups inner)) (map later (paths_of_branches rest))
      (Ordered-map Turns Turns (λ below. zero ∷ below) (λ x y turns. inr (refl, turns)) (paths_of_groups inner) (Ordered-paths_of_groups inner))
      (Ordered-map Turns Turns later Turns-later (paths_of_branches rest) (Ordered-paths_of_branches rest))
      (λ x y in-x in-y.
      let a = In-map_source (λ below. zero ∷ below) x (paths_of_groups inner) in-x in
      let b = In-map_source later y (paths_of_branches rest) in-y in
      subst (λ z. Turns z y) (sym a.2) (subst (Turns (zero ∷ a.0)) (sym b.2)
      (Turns-zero_later a.0 b.0 (λ nil. paths_of_branches-nil rest (subst (λ p. In p (paths_of_branches rest)) nil b.1)))))

-- the products are the faces
pub AreFaces-faces_of_groups : (groups : Groups) → AreFaces groups (faces_of_groups groups)
AreFaces-faces_of_groups groups = record {
  paths = paths_of_groups groups;
  ordered = AllPairs-from_Ordered IsBefore (paths_of_groups groups)
      (Ordered-weaker Turns IsBefore IsBefore-from_Turns (paths_of_groups groups) (Ordered-paths_of_groups groups));
  every = λ path face given. Contains-from_In path (paths_of_groups groups) (Gives-listed groups path face given);
  given = Gives-given groups;
}

-- a path gives one face, and no path goes on where another one ends
mutual
  Gives-same : (groups : Groups) (p q r s : List ℕ) (f h : Face) → Gives groups p f → Gives groups q h → p ++ r ≡ q ++ s →
      (p ≡ q) × (f ≡ h) × (r ≡ s)
  Gives-same no_group p q r s f h a b e =
      (a.0 ∙ sym b.0, a.1 ∙ sym b.1, sym (ap (λ x. x ++ r) a.0) ∙ e ∙ ap (λ x. x ++ s) b.0)
  Gives-same (group attr branches rest) p q r s f h a b e =
      let whole : a.0 ++ (a.1 ++ r) ≡ b.0 ++ (b.1 ++ s) =
      sym (append_assoc a.0 a.1 r) ∙ sym (ap (λ x. x ++ r) a.4) ∙ e ∙ ap (λ x. x ++ s) b.4 ∙ append_assoc b.0 b.1 s in
      let fronts = GivesBranch-same attr branches a.0 b.0 (a.1 ++ r) (b.1 ++ s) a.2 b.2 a.6 b.6 whole in
      let backs = Gives-same rest a.1 b.1 r s a.3 b.3 a.7 b.7 fronts.2 in (
        a.4 ∙ ap (λ x. x ++ a.1) fronts.0 ∙ ap (λ x. b.0 ++ x) backs.0 ∙ sym b.4,
        a.5 ∙ ap (λ x. x ++ a.3) fronts.1 ∙ ap (λ x. b.2 ++ x) backs.1 ∙ sym b.5,
        backs.2,
      )

  GivesBranch-same : (attr : ℕ) (branches : Branches) (p q r s : List ℕ) (f h : Face) → GivesBranch attr branches p f → GivesBranch attr branches q h →
      p ++ r ≡ q ++ s → (p ≡ q) × (f ≡ h) × (r ≡ s)
  GivesBranch-same attr no_branch p q r s f h a b e = absurd a
  GivesBranch-same attr (branch value inner rest) [] q r s f h a b e = absurd a
  GivesBranch-same attr (branch value inner rest) (zero ∷ p) [] r s f h a b e = absurd b
  GivesBranch-same attr (branch value inner rest) (suc i ∷ p) [] r s f h a b e = absurd b
  GivesBranch-same attr (branch value inner rest) (zero ∷ p) (zero ∷ q) r s f h a b e =
      let tail : p ++ r ≡ q ++ s = cc in
      let same = Gives-same inner p q r s a.0 b.0 a.2 b.2 tail in
      (ap (λ x. zero ∷ x) same.0, a.1 ∙ ap (λ x. (attr, value) ∷ x) same.1 ∙ sym b.1, same.2)
  GivesBranch-same attr (branch value inner rest) (zero ∷ p) (suc j ∷ q) r s f h a b e =
      let head : zero ≡ suc j = cc in absurd (omega arith)
  GivesBranch-same attr (branch value inner rest) (suc i ∷ p) (zero ∷ q) r s f h a b e =
      let head : suc i ≡ zero = cc in absurd (omega arith)
  GivesBranch-same attr (branch value inner rest) (suc i ∷ p) (suc j ∷ q) r s f h a b e =
      let head : suc i ≡ suc j = cc in
      let position : i ≡ j = omega arith in
      let tail : p ++ r ≡ q ++ s = cc in
      let same = GivesBranch-same attr rest (i ∷ p) (j ∷ q) r s f h a b (ap (λ x. x ∷ (p ++ r)) position ∙ ap (λ x. j ∷ x) tail) in
      (ap later same.0, same.1, same.2)

-- of two paths at most one is before the other
IsBefore-asym : (p q : List ℕ) → IsBefore p q → IsBefore q p → ⊥
IsBefore-asym [] [] a b = a
IsBefore-asym (x ∷ p) [] a b = a
IsBefore-asym [] (y ∷ q) a b = b
IsBefore-asym (x ∷ p) (y ∷ q) (inl a) (inl b) = absurd (omega arith)
IsBefore-asym (x ∷ p) (y ∷ q) (inl a) (inr b) = let same = b.0 in absurd (omega arith)
IsBefore-asym (x ∷ p) (y ∷ q) (inr a) (inl b) = let same = a.0 in absurd (omega arith)
IsBefore-asym (x ∷ p) (y ∷ q) (inr a) (inr b) = IsBefore-asym p q a.1 b.1

-- a tree's faces are one list
pub AreFaces-unique : (groups : Groups) (xs ys : List Face) → AreFaces groups xs → AreFaces groups ys → xs ≡ ys
AreFaces-unique groups xs ys a b =
    AllZip-unique (Gives groups) (λ p f h of-f of-h. (Gives-same groups p p [] [] f h of-f of-h refl).1) b.paths xs ys
    (subst (λ ps. AllZip (Gives groups) ps xs) same_paths a.given) b.given
  where
    same_paths : a.paths ≡ b.paths
    same_paths = Ordered-unique IsBefore IsBefore-asym a.paths b.paths
        (Ordered-from_AllPairs IsBefore a.paths a.ordered) (Ordered-from_AllPairs IsBefore b.paths b.ordered)
        (λ p in'. let g = AllZip-In (Gives groups) a.paths xs p a.given in' in In-from_Contains p b.paths (b.every p g.0 g.1))
        (λ p in'. let g = AllZip-In (Gives groups) b.paths ys p b.given in' in In-from_Contains p a.paths (a.every p g.0 g.1))

-- a product has as many lists as its factors multiplied
length-joined : (xs ys : List Face) → length (joined xs ys) ≡ length xs * length ys
length-joined [] ys = omega arith
length-joined (x ∷ xs) ys =
    omega (arith, length-append (map (λ second. x ++ second) ys) (joined xs ys), length-map ys (λ second. x ++ second), length-joined xs ys)

-- there are as many faces as the count says
mutual
  length-faces_of_groups : (groups : Groups) → length (faces_of_groups groups) ≡ face_count groups
  length-faces_of_groups no_group = refl
  length-faces_of_groups (group attr branches rest) =
      length-joined (faces_of_branches attr branches) (faces_of_groups rest)
      ∙ ap (λ n. n * length (faces_of_groups rest)) (length-faces_of_branches attr branches)
      ∙ ap (λ n. branch_count branches * n) (length-faces_of_groups rest)

  length-faces_of_branches : (attr : ℕ) (branches : Branches) → length (faces_of_branches attr branches) ≡ branch_count branches
  length-faces_of_branches attr no_branch = refl
  length-faces_of_branches attr (branch value inner rest) =
      omega (
        arith,
        length-append (map (λ below. (attr, value) ∷ below) (faces_of_groups inner)) (faces_of_branches attr rest),
        length-map (faces_of_groups inner) (λ below. (attr, value) ∷ below),
        length-faces_of_groups inner,
        length-faces_of_branches attr rest,
      )

-- a tree has as many faces as its count says
pub length-AreFaces : (groups : Groups) (faces : List Face) → AreFaces groups faces → length faces ≡ face_count groups
length-AreFaces groups faces are =
    ap length (AreFaces-unique groups faces (faces_of_groups groups) are (AreFaces-faces_of_groups groups)) ∙ length-faces_of_groups groups

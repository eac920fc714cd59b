-- What the entries of points give is what their trees say in order.
use Rattle.std.proofs.Common.{◌≡◌, ℕ, ◌+◌, List, [], ◌∷◌, ◌++◌, Some, flat_map, refl, sym, ap, ap₂, ◌∙◌, arith, eqb-true}
use Rattle.std.proofs.lemmas.List.{append-nil, append_assoc}
use Rattle.std.proofs.lemmas.Grind.{flat_map-append}
use Rattle.rc_base.specs.Tree.{Tree, word, list, Trees, nil, cons}
use Rattle.rc_check.specs.Faults.{faults_at, faults_in, rule_of, count}
use Rattle.rc_check.specs.declared.grammar.Symbol.TheVariants as symbol
use Rattle.rc_check.specs.declared.grammar.Rule.TheVariants as rule
use Rattle.rc_check.specs.declared.role.Role.TheVariants.{No as no_role, GivenValue as given_value}
use Rattle.rc_check.specs.SecondParts.{Standing, Part, atom, form, parts_at, parts_in, with_form}
use Rattle.rc_sheet.proofs.Shapes.{none_in_both, no_list_at}
use Rattle.rc_sheet.proofs.Bodies.{standing_at}
use Rattle.rc_sheet.proofs.Given.Faces.{sole}

-- Entries by what an attribute gives and what a value gives, and what their trees say.
module _
    {X : Type 0}
    (given : Part → List X)
    (attr : List ℕ → List X)
    (value : List ℕ → List X)
    (in_entries : Trees → List X)
    (in_values : Trees → List X)
    (no_entries : in_entries nil ≡ [])
    (some_entry : (bytes : List ℕ) (a b c d e f : ℕ) (values others rest : Trees)
    → in_entries (cons (list (cons (word bytes a b) (cons (list values c d) others)) e f) rest)
    ≡ attr bytes ++ (in_values values ++ in_entries rest))
    (no_values : in_values nil ≡ [])
    (some_value : (bytes : List ℕ) (a b : ℕ) (rest : Trees)
    → in_values (cons (word bytes a b) rest) ≡ value bytes ++ in_values rest)
    (entry_gives : (at : Standing) (bytes : List ℕ) (a b from : ℕ) (rest : Trees)
    → given (form at rule.Entry (cons (word bytes a b) rest) from) ≡ attr bytes)
    (values_give : (at : Standing) (parts : Trees) (from : ℕ) → given (form at rule.Values parts from) ≡ [])
    (plain_gives : (at : Standing) (bytes : List ℕ) (from : ℕ) → at.role ≡ no_role → given (atom at bytes from) ≡ [])
    (value_gives : (at : Standing) (bytes : List ℕ) (from : ℕ) → at.role ≡ given_value → given (atom at bytes from) ≡ value bytes)
  where
    -- values among the parts of their list
    values_all : (at : Standing) (all : Trees) (index : ℕ) (trees : Trees) → faults_in rule.Values (count all) index trees ≡ []
        → in_values trees ≡ flat_map given (parts_in at rule.Values all index trees)
    values_all at all index nil none = no_values
    values_all at all index (cons (word bytes a b) rest) none =
        let apart = none_in_both (faults_at (Some symbol.Name) (word bytes a b)) (faults_in rule.Values (count all)
        (index + 1) rest) none in
        some_value bytes a b rest
        ∙ ap₂ (λ x y. x ++ y) (sym (value_gives (standing_at at rule.Values all index symbol.Name) bytes a refl))
        (values_all at all (index + 1) rest apart.1)
    values_all at all index (cons (list parts a b) rest) none =
        let apart = none_in_both (faults_at (Some symbol.Name) (list parts a b)) (faults_in rule.Values (count all)
        (index + 1) rest) none in
        absurd (no_list_at symbol.Name parts a b refl apart.0)

    -- an entry gives what its parts give
    entry_inside : (at : Standing) (bytes points : List ℕ) (a b c d e f g h : ℕ) (values : Trees) →
        let parts = cons (word bytes a b) (cons (list values c d) (cons (word points g h) nil)) in
        rule_of at.place parts ≡ Some rule.Entry → rule_of symbol.Values values ≡ Some rule.Values
        → faults_in rule.Values (count values) 0 values ≡ []
        → flat_map given (parts_at (Some at) (list parts e f)) ≡ attr bytes ++ in_values values
    entry_inside at bytes points a b c d e f g h values told below none =
        let parts = cons (word bytes a b) (cons (list values c d) (cons (word points g h) nil)) in
        let stand = standing_at at rule.Entry parts 1 symbol.Values in
        ap (λ o. flat_map given (with_form at parts e (λ r. parts_in at r parts 0 parts) o)) told
        ∙ ap₂ (λ x y. x ++ y) (entry_gives at bytes a b e (cons (list values c d) (cons (word points g h) nil)))
        (ap₂ (λ x y. x ++ y) (plain_gives (standing_at at rule.Entry parts 0 symbol.Name) bytes a refl)
        (flat_map-append given (parts_at (Some stand) (list values c d))
        (atom (standing_at at rule.Entry parts 2 symbol.Points) points g ∷ [])
        ∙ ap₂ (λ x y. x ++ y)
        (ap (λ o. flat_map given (with_form stand values c (λ r. parts_in stand r values 0 values) o)) below
        ∙ ap₂ (λ x y. x ++ y) (values_give stand values c) (sym (values_all stand values 0 values none)))
        (ap (λ l. l ++ []) (plain_gives (standing_at at rule.Entry parts 2 symbol.Points) points g refl))
        ∙ append-nil (in_values values)))

    -- one entry, and others behind it
    entry_first : (at : Standing) → at.place ≡ symbol.Entry → (tree : Tree) (rest : Trees) → faults_at (Some symbol.Entry) tree ≡ []
        → in_entries (cons tree rest) ≡ flat_map given (parts_at (Some at) tree) ++ in_entries rest
    entry_first at here (word bytes from to) rest none = absurd cc
    entry_first at here (list nil from to) rest none = absurd cc
    entry_first at here (list (cons x nil) from to) rest none =
        let shape = sole symbol.Entry rule.Entry (cons x nil) from to (refl, tt) none in
        let three = shape.1 in absurd cc
    entry_first at here (list (cons x (cons y nil)) from to) rest none =
        let shape = sole symbol.Entry rule.Entry (cons x (cons y nil)) from to (refl, tt) none in
        let three = shape.1 in absurd cc
    entry_first at here (list (cons x (cons y (cons z (cons u parts)))) from to) rest none =
        let shape = sole symbol.Entry rule.Entry (cons x (cons y (cons z (cons u parts)))) from to (refl, tt) none in
        let three = eqb-true (count (cons x (cons y (cons z (cons u parts))))) 3 shape.1 in absurd (omega (arith, three))
    entry_first at here (list (cons (list parts a b) (cons y (cons z nil))) from to) rest none =
        let shape = sole symbol.Entry rule.Entry (cons (list parts a b) (cons y (cons z nil))) from to (refl, tt) none in
        absurd (no_list_at symbol.Name parts a b refl (none_in_both (faults_at (Some symbol.Name) (list parts a b)) _ shape.2).0)
    entry_first at here (list (cons (word bytes a b) (cons (word other c d) (cons z nil))) from to) rest none =
        let shape = sole symbol.Entry rule.Entry (cons (word bytes a b) (cons (word other c d) (cons z nil))) from to
        (refl, tt) none in
        let apart = none_in_both (faults_at (Some symbol.Name) (word bytes a b)) _ shape.2 in
        let second : faults_at (Some symbol.Values) (word other c d) ≡ [] =
        (none_in_both (faults_at (Some symbol.Values) (word other c d)) _ apart.1).0 in
        absurd cc
    entry_first at here (list (cons (word bytes a b) (cons (list values c d) (cons (list parts g h) nil))) from to) rest none =
        let shape = sole symbol.Entry rule.Entry (cons (word bytes a b) (cons (list values c d) (cons
        (list parts g h) nil))) from to
        (refl, tt) none in
        let apart = none_in_both (faults_at (Some symbol.Name) (word bytes a b)) _ shape.2 in
        let second = none_in_both (faults_at (Some symbol.Values) (list values c d)) _ apart.1 in
        absurd (no_list_at symbol.Points parts g h refl (none_in_both (faults_at (Some symbol.Points)
        (list parts g h)) [] second.1).0)
    entry_first at here (list (cons (word bytes a b) (cons (list values c d) (cons (word points g h) nil))) from to) rest none =
        let parts = cons (word bytes a b) (cons (list values c d) (cons (word points g h) nil)) in
        let shape = sole symbol.Entry rule.Entry parts from to (refl, tt) none in
        let apart = none_in_both (faults_at (Some symbol.Name) (word bytes a b)) _ shape.2 in
        let second = none_in_both (faults_at (Some symbol.Values) (list values c d)) _ apart.1 in
        let below = sole symbol.Values rule.Values values c d (refl, tt) second.0 in
        some_entry bytes a b c d from to values (cons (word points g h) nil) rest
        ∙ sym (append_assoc (attr bytes) (in_values values) (in_entries rest))
        ∙ ap (λ l. l ++ in_entries rest)
        (sym (entry_inside at bytes points a b c d from to g h values (ap (λ p. rule_of p parts) here ∙ shape.0) below.0 below.2))

    -- entries among the parts of their list
    pub entries_give : (at : Standing) (all : Trees) (index : ℕ) (trees : Trees)
        → faults_in rule.Entries (count all) index trees ≡ []
        → in_entries trees ≡ flat_map given (parts_in at rule.Entries all index trees)
    entries_give at all index nil none = no_entries
    entries_give at all index (cons tree rest) none =
        let apart = none_in_both (faults_at (Some symbol.Entry) tree) (faults_in rule.Entries (count all) (index + 1) rest) none in
        entry_first (standing_at at rule.Entries all index symbol.Entry) refl tree rest apart.0
        ∙ ap (λ l. flat_map given (parts_at (Some (standing_at at rule.Entries all index symbol.Entry)) tree) ++ l)
        (entries_give at all (index + 1) rest apart.1)
        ∙ sym (flat_map-append given (parts_at (Some (standing_at at rule.Entries all index symbol.Entry)) tree)
        (parts_in at rule.Entries all (index + 1) rest))

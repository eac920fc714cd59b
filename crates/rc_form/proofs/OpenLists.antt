-- The lists that are open in a reader, the innermost first, and the forms that they take their parts from.
use Rattle.std.proofs.Common.{◌≡◌, ℕ, ◌≤◌, List, [], ◌∷◌, ◌++◌, length, take, drop, suc, sym, ap, refl, arith, nat_lt, ◌||◌, IsTrue, rules}
use Rattle.std.proofs.lemmas.List.{take-append-le, drop-append-le, map-append, length-map, length-append, take_all, drop_all}
use Rattle.rc_base.specs.Token.{Token}
use Rattle.rc_form.specs.Form.{tree_of, trees_of}
use Rattle.rc_form.specs.Read.{read, read_with}
use Rattle.rc_form.specs.Reader.{complete, pendings, AreWithin}
use Rattle.rc_form.specs.declared.form.Form.{Form}
use Rattle.rc_form.specs.declared.reader.OpenList.{OpenList}

-- one more form is a part of the innermost list, or complete where none is open
pub put_form : (want : ℕ) (stack : List OpenList) (forms : List Form) (form : Form) (ts : List Token)
    → AreWithin (length forms) stack
    → read_with want (trees_of (complete stack forms)) (pendings stack forms) (tree_of form) ts
    ≡ read want (trees_of (complete stack (forms ++ form ∷ []))) (pendings stack (forms ++ form ∷ [])) ts
put_form want [] forms form ts within = ap (λ done. read want done [] ts) (sym (map-append tree_of forms (form ∷ [])))
put_form want (inner ∷ outer) forms form ts within =
    rw (
      take-append-le inner.start forms (form ∷ []) within.0,
      drop-append-le inner.start forms (form ∷ []) within.0,
      map-append tree_of (drop inner.start forms) (form ∷ []),
    )

-- what is within fewer is within more
pub within_more : (stack : List OpenList) (count more : ℕ) → count ≤ more → AreWithin count stack → AreWithin more stack
within_more [] count more less within = tt
within_more (inner ∷ outer) count more less within = (omega arith, within.1)

pub within_put : (stack : List OpenList) (forms : List Form) (form : Form) → AreWithin (length forms) stack
    → AreWithin (length (forms ++ form ∷ [])) stack
within_put stack forms form within =
    let longer : length forms ≤ length (forms ++ form ∷ []) = rw (length-append forms (form ∷ [])) (omega arith) in
    within_more stack (length forms) (length (forms ++ form ∷ [])) longer within

-- a list that opens has no parts, and what stands before it stays
pub open_list : (want : ℕ) (stack : List OpenList) (forms : List Form) (from start : ℕ) (ts : List Token)
    → start ≡ length forms
    → read want (trees_of (complete stack forms)) (record { from = from; parts = [] } ∷ pendings stack forms) ts
    ≡ read want (trees_of (complete (record { from = from; start = start } ∷ stack) forms))
    (pendings (record { from = from; start = start } ∷ stack) forms) ts
open_list want stack forms from start ts is =
    rw (is, take_all (length forms) forms (omega arith), drop_all (length forms) forms (omega arith))

-- as many are open
pub length-pendings : (stack : List OpenList) (forms : List Form) → length (pendings stack forms) ≡ length stack
length-pendings [] forms = refl
length-pendings (inner ∷ outer) forms = ap (λ n. suc n) (length-pendings outer (take inner.start forms))

-- more is wanted where a list is open, or fewer are complete
pub is_wanted : (want : ℕ) (stack : List OpenList) (forms : List Form)
    → IsTrue (nat_lt 0 (length stack) || nat_lt (length forms) want)
    → IsTrue (nat_lt 0 (length (pendings stack forms)) || nat_lt (length (trees_of (complete stack forms))) want)
is_wanted want [] forms reading = rw (length-map forms tree_of) reading
is_wanted want (inner ∷ outer) forms reading = search rules

use Rattle.std.proofs.Common.{◌≡◌, ◌+◌, ◌*◌, ◌∷◌, min, drop, sym, ap, ◌∙◌, arith}
use Rattle.std.proofs.lemmas.List.{at_drop_more}
use Rattle.rc_check.proofs.Capped.{one_more}
use Rattle.rc_form.specs.Form.{tree_of, trees_of, packed}
use Rattle.rc_form.proofs.FormLemmas.{tree_of_atom, tree_of_list}
use Rattle.rc_check.specs.SecondNames.{written_faces, written_branches}
use Rattle.rc_check.specs.Groups.{faces_by}
use Rattle.rc_check.proofs.GroupLemmas.{list_seen, once_by_short, once_by_long, branches_by, pair_by, faces_more}
use Rattle.rc_check.proofs.faces.+faces.Goals as goal

pub group_faces-returns-in_default-as_slice : goal.group_faces-returns-in_default-as_slice
group_faces-returns-in_default-as_slice t c =
    ap (λ n. min n 513) (sym
    (ap faces_by (list_seen _ _ _ _ c.in-List.is c.as_slice.ensures.trees) ∙ once_by_short _ _ _ c.in_default-as_slice.len_below))

pub group_faces-returns-in_default-as_slice-2 : goal.group_faces-returns-in_default-as_slice-2
group_faces-returns-in_default-as_slice-2 t c =
    ap (λ n. min n 513) (sym
    (ap faces_by (list_seen _ _ _ _ c.in-List.is c.as_slice.ensures.trees)
    ∙ once_by_long _ _ _ c.in_default-as_slice.len_at_least))

pub group_faces-returns-in-List-branches : goal.group_faces-returns-in-List-branches
group_faces-returns-in-List-branches t c =
    let two = pair_by _ _ c.in-List.span.from c.in-List.span.to c.in-len2.len_at_least c.in-len2.len_below c.branches-item.is in
    let inner = ap branches_by (tree_of_list _ _ _ c.in-List-branches.is) in
    let same = ap (λ trees. written_branches (packed trees)) c.as_slice-in-List-branches.ensures.trees in
    c.branch_count.ensures ∙ ap (λ n. min n 513)
    (same ∙ sym (ap faces_by (list_seen _ _ _ _ c.in-List.is c.as_slice.ensures.trees) ∙ two ∙ inner))

pub group_faces-returns-in-Atom : goal.group_faces-returns-in-Atom
group_faces-returns-in-Atom t c =
    let two = pair_by _ _ c.in-List.span.from c.in-List.span.to c.in-len2.len_at_least c.in-len2.len_below c.branches-item.is in
    let inner = ap branches_by (tree_of_atom _ _ _ c.in-Atom.is) in
    ap (λ n. min n 513) (sym (ap faces_by (list_seen _ _ _ _ c.in-List.is c.as_slice.ensures.trees) ∙ two ∙ inner))

-- one group more
pub face_count-loop-group-preserved : goal.face_count-loop-group-preserved
face_count-loop-group-preserved t c =
    let groups = c.args.groups.now in
    let index = c.loop-group.group-index in
    let group = c.group-item.result in
    let rest = written_faces (packed (trees_of (drop (index + 1) groups))) in
    let made : c.product-count.result ≡ min (c.loop-group.count * min (faces_by (tree_of group)) 513) 513 =
    c.product-count.ensures ∙ ap (λ faces. min (c.loop-group.count * faces) 513) c.group_faces.ensures in
    let left : written_faces (packed (trees_of (drop index groups))) ≡ faces_by (tree_of group) * rest =
    at_drop_more (λ forms. written_faces (packed (trees_of forms))) groups index group c.loop-group-test.true
    ∙ ap (λ form. written_faces (packed (trees_of (form ∷ drop (index + 1) groups)))) (sym c.group-item.is)
    ∙ faces_more (tree_of group) (packed (trees_of (drop (index + 1) groups))) in (
      omega (arith, c.product-count.ensures),
      ap (λ n. min (n * rest) 513) made
          ∙ one_more c.loop-group.count (faces_by (tree_of group)) rest
          ∙ ap (λ n. min (c.loop-group.count * n) 513) (sym left)
          ∙ c.loop-group.invariant.1,
    )

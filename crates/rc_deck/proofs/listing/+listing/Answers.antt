use Rattle.std.proofs.Common.{◌≡◌, ◌+◌, ◌++◌, [], ◌∷◌, drop, sym, ap, ◌∙◌, append_assoc}
use Rattle.std.proofs.lemmas.List.{at_drop_all}
use Rattle.rc_deck.specs.Tree.{attr_of, value_of, branches_of, groups_in, branches_in}
use Rattle.rc_deck.specs.Product.{behind, joined, faces_of_groups, faces_of_branches}
use Rattle.rc_deck.proofs.TreeLemmas.{attr_of_out, value_of_out, inner_of_out, branches_are, branches_in-none, groups_in-drop}
use Rattle.rc_deck.proofs.ListingLemmas.{extended, extended_by, extended-drop, extended-last}
use Rattle.rc_deck.proofs.ProductLemmas.{joined-joined, joined-single_nil}
use Rattle.rc_deck.proofs.listing.+listing.Goals as goal

pub extend_by_groups-loop-group-preserved : goal.extend_by_groups-loop-group-preserved
extend_by_groups-loop-group-preserved t c =
    let faces = c.loop-group.faces.items in
    let g = c.group-item.result in
    let rest = groups_in (drop (c.loop-group.group-index + 1) c.deref-group-items.result.now) in
    let new : c.in_ok-faces-2.faces.items ≡ joined faces (faces_of_branches (attr_of g) (branches_of g)) = c.in_ok-faces-2.ensures in
    ap (λ fs. joined fs (faces_of_groups rest)) new
    ∙ joined-joined faces (faces_of_branches (attr_of g) (branches_of g)) (faces_of_groups rest)
    ∙ ap (λ gs. joined faces (faces_of_groups gs)) (sym (groups_in-drop _ _ _ c.loop-group-test.true c.group-item.is))
    ∙ c.loop-group.invariant

pub extend_by_groups-returns : goal.extend_by_groups-returns
extend_by_groups-returns t c =
    let faces = c.loop-group.faces.items in
    sym (joined-single_nil faces)
    ∙ ap (λ gs. joined faces (faces_of_groups gs)) (sym (at_drop_all groups_in _ _ c.loop-group-test.false))
    ∙ c.loop-group.invariant
    ∙ ap (λ gs. behind c.args.face (faces_of_groups (groups_in gs))) c.deref-group-items.ensures.value

pub extend_by_group-returns-in_default : goal.extend_by_group-returns-in_default
extend_by_group-returns-in_default t c =
    let g = c.args.group.now in
    let none = branches_are g _ c.deref.ensures.value ∙ branches_in-none _ c.in_default.ensures.cases in
    c.new-all.ensures.items ∙ ap (λ bs. behind c.args.face (faces_of_branches (attr_of g) bs)) (sym none)

pub extend_by_group-loop-branch-init : goal.extend_by_group-loop-branch-init
extend_by_group-loop-branch-init t c =
    let g = c.args.group.now in
    let all = ap branches_in (sym c.in-Some.ensures.cases.0) ∙ sym (branches_are g _ c.deref.ensures.value) in
    ap (λ fs. fs ++ extended c.args.face (attr_of g) (c.in-Some.others.now ++ c.in-Some.last.now ∷ [])) c.new-all.ensures.items
    ∙ ap (λ bs. behind c.args.face (faces_of_branches (attr_of g) bs)) all

pub extend_by_group-loop-branch-preserved : goal.extend_by_group-loop-branch-preserved
extend_by_group-loop-branch-preserved t c =
    let all = c.loop-branch.all.items in
    let face = c.args.face in
    let attr = attr_of c.args.group.now in
    let faces = extended_by face attr c.branch-item.result in
    let rest = extended face attr (drop (c.loop-branch.branch-index + 1) c.in-Some.others.now ++ c.in-Some.last.now ∷ []) in
    let copied : c.in_ok-copy.copy ≡ face = c.in_ok-copy.ensures in
    let named = attr_of_out c.args.group.now in
    let new : c.extend_by_branch.new.all.items ≡ all ++ faces = rw (← copied, ← named) c.in_ok-extend_by_branch.ensures in
    ap (λ fs. fs ++ rest) new
    ∙ append_assoc all faces rest
    ∙ ap (λ fs. all ++ fs) (sym (extended-drop face attr _ _ _ _ c.loop-branch-test.true c.branch-item.is))
    ∙ c.loop-branch.invariant

pub extend_by_group-returns : goal.extend_by_group-returns
extend_by_group-returns t c =
    let all = c.loop-branch.all.items in
    let face = c.args.face in
    let attr = attr_of c.args.group.now in
    let last = c.in-Some.last.now in
    let named = attr_of_out c.args.group.now in
    let new : c.extend_by_branch-2.new.all.items ≡ all ++ extended_by face attr last = rw (← named) c.in_ok-extend_by_branch-2.ensures in
    new ∙ ap (λ fs. all ++ fs) (sym (extended-last face attr _ _ last c.loop-branch-test.false)) ∙ c.loop-branch.invariant

pub extend_by_branch-returns : goal.extend_by_branch-returns
extend_by_branch-returns t c =
    let b = c.args.branch.now in
    let taken : c.in_ok-face.face ≡ c.args.face ++ (c.args.attr, value_of b) ∷ [] = rw (← value_of_out b) c.in_ok-face.ensures in
    let faces : c.in_ok-extended.extended.items ≡ extended_by c.args.face c.args.attr b = rw (← taken, ← inner_of_out b) c.in_ok-extended.ensures in
    rw (← faces) c.in_ok-append.ensures.items

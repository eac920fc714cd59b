use Rattle.std.proofs.Common.{◌≡◌, List, [], Vec, Global, Result, Ok, Err, IfOk, sym, ◌∙◌, subst}
use Rattle.rc_base.specs.Deck.{Groups, Face, AreFaces}
use Rattle.rc_deck.specs.declared.memory.Memory.{Memory}
use Rattle.rc_deck.specs.Tree.{groups_of}
use Rattle.rc_deck.specs.Product.{behind, faces_of_groups}
use Rattle.rc_deck.proofs.ProductLemmas.{behind-nil}
use Rattle.rc_deck.proofs.PathLaws.{AreFaces-faces_of_groups, AreFaces-unique}
use Rattle.rc_deck.proofs.listing.faces_of.Goals as goal

-- with nothing before them, the products are the faces
IfOk-faces : (groups : Groups) (face : Face) (r : Result (Vec Face Global) Memory) → face ≡ [] →
    IfOk r (λ v. v.items ≡ behind face (faces_of_groups groups)) → IfOk r (λ v. AreFaces groups v.items)
IfOk-faces groups face (Ok v) none is =
    subst (AreFaces groups) (sym (is ∙ behind-nil face (faces_of_groups groups) none)) (AreFaces-faces_of_groups groups)
IfOk-faces groups face (Err e) none is = tt

-- they are the only ones
IfOk-only : (groups : Groups) (r : Result (Vec Face Global) Memory) → IfOk r (λ v. AreFaces groups v.items) →
    IfOk r (λ v. (faces : List Face) → AreFaces groups faces → faces ≡ v.items)
IfOk-only groups (Ok v) are = λ faces others. AreFaces-unique groups faces v.items others are
IfOk-only groups (Err e) are = tt

pub returns : goal.returns
returns c =
    let groups = groups_of c.args.tree.now in
    let are = IfOk-faces groups c.new-2.result c.extend_by_groups.result (c.new-2.ensures ∙ c.new.ensures.items) c.extend_by_groups.ensures in
    record {
      faces = are;
      only = IfOk-only groups c.extend_by_groups.result are;
    }

-- Which instruction is next where a choice is offered.
use Rattle.std.proofs.Common.{◌≡◌, ℕ, ◌+◌, List, [], drop, slice_get, Option, Some, sym, ap, ◌∙◌}
use Rattle.rc_sheet_spec.specs.Sheet.{Alt}
use Rattle.rc_sheet_spec.specs.Lists.{item_list}
use Rattle.rc_play_spec.specs.Menu.{alts_at}
use Rattle.rc_code.specs.Instruction.{Block, Instruction, offer}
use Rattle.rc_code.specs.Meaning.{items_from}
use Rattle.rc_code.proofs.MeaningLemmas.{items_choice}
use Rattle.rc_code.proofs.LeftLemmas.{first_there}
use Rattle.rc_flat.specs.Flat.{Flat, IsOffered}

-- no choice is offered where no item is next
pub not_offered : (m : Flat) (site : ℕ) → IsOffered m site → items_from (drop m.place.next m.code) ≡ [] → ⊥
not_offered m site offered none =
    let rest = drop (m.place.next + 1) m.code in
    let some = sym none ∙ ap items_from (first_there m.code m.place.next _ offered.there)
    ∙ ap item_list (items_choice site (alts_at m.about.sheet site) offered.blocks offered.inside rest) in
    cc

abbrev site_in : Option Instruction → ℕ
site_in (Some (offer site alts blocks inside)) = site
site_in other = 0

-- the choice that is next is the one that is offered
pub one_site : (m : Flat) (site other : ℕ) (alts : List Alt) (blocks : List Block) (inside : ℕ) →
    slice_get m.code m.place.next ≡ Some (offer site alts blocks inside) → IsOffered m other → site ≡ other
one_site m site other alts blocks inside is offered = ap site_in (sym is ∙ offered.there)

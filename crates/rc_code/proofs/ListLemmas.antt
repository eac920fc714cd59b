-- Lists of instructions: code put behind others, and the place that was held for an instruction before it.
use Rattle.std.proofs.Common.{◌≡◌, ℕ, zero, suc, ◌+◌, ◌-◌, List, [], ◌∷◌, ◌++◌, length, slice_set, refl, sym, ap, ap₂, ◌∙◌, append_assoc, arith}
use Rattle.std.proofs.lemmas.List.{length-map, length-append}
use Rattle.rc_sheet_spec.specs.Sheet.{Alt}
use Rattle.rc_code.specs.Instruction.{Block, Instruction as PureInstruction, offer, end_body}
use Rattle.rc_code.specs.declared.code.Instruction.{Instruction}
use Rattle.rc_code.specs.Seen.{instruction_seen, list_seen}

pub seen_set : (list : List Instruction) (at : ℕ) (one : Instruction) → list_seen (slice_set list at one) ≡ slice_set (list_seen list) at (instruction_seen one)
seen_set [] at one = refl
seen_set (i ∷ list) zero one = refl
seen_set (i ∷ list) (suc at) one = ap (λ rest. instruction_seen i ∷ rest) (seen_set list at one)

-- an instruction in the place that was held for it
pub written : (old code : List PureInstruction) (held one : PureInstruction) → slice_set (old ++ held ∷ code) (length old) one ≡ old ++ one ∷ code
written [] code held one = refl
written (i ∷ old) code held one = ap (λ rest. i ∷ rest) (written old code held one)

pub grown : (old new : List Instruction) (code : List PureInstruction) → list_seen new ≡ list_seen old ++ code → length new ≡ length old + length code
grown old new code is =
    sym (length-map new instruction_seen) ∙ ap length is ∙ length-append (list_seen old) code
    ∙ ap (λ n. n + length code) (length-map old instruction_seen)

-- how many were put behind others
pub behind : (old new : List Instruction) (code : List PureInstruction) (from to : ℕ) → list_seen new ≡ list_seen old ++ code → from ≡ length old →
    to ≡ length new → to - from ≡ length code
behind old new code from to is begins ends = let more = grown old new code is in omega (arith, more, begins, ends)

-- code behind a place that is held
pub enclosed : (old pushed more : List Instruction) (code : List PureInstruction) (held : PureInstruction) → list_seen pushed ≡ list_seen old ++ held ∷ [] →
    list_seen more ≡ list_seen pushed ++ code → list_seen more ≡ list_seen old ++ held ∷ code
enclosed old pushed more code held push inside =
    inside ∙ ap (λ list. list ++ code) push ∙ append_assoc (list_seen old) (held ∷ []) code

-- code with the end of a body behind it
pub with_end : (old more new : List Instruction) (code : List PureInstruction) → list_seen more ≡ list_seen old ++ code →
    list_seen new ≡ list_seen more ++ end_body ∷ [] → list_seen new ≡ list_seen old ++ (code ++ end_body ∷ [])
with_end old more new code inside push =
    push ∙ ap (λ list. list ++ end_body ∷ []) inside ∙ append_assoc (list_seen old) code (end_body ∷ [])

-- a place that was held, with the instruction in it
pub filled : (old more new : List Instruction) (code : List PureInstruction) (held one full : PureInstruction) (at : ℕ) →
    list_seen more ≡ list_seen old ++ held ∷ code → at ≡ length old → list_seen new ≡ slice_set (list_seen more) at one → one ≡ full →
    list_seen new ≡ list_seen old ++ full ∷ code
filled old more new code held one full at inside here set is =
    set ∙ ap (λ list. slice_set list at one) inside
    ∙ ap (λ n. slice_set (list_seen old ++ held ∷ code) n one) (here ∙ sym (length-map old instruction_seen))
    ∙ written (list_seen old) code held one ∙ ap (λ i. list_seen old ++ i ∷ code) is

pub same_offer : (site : ℕ) (alts others : List Alt) (blocks more : List Block) (inside count : ℕ) → alts ≡ others → blocks ≡ more → inside ≡ count →
    offer site alts blocks inside ≡ offer site others more count
same_offer site alts others blocks more inside count a b n =
    ap (λ list. offer site list blocks inside) a ∙ ap₂ (λ bs k. offer site others bs k) b n

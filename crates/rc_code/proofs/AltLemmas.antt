-- The code of alternatives, one after the other.
use Rattle.std.proofs.Common.{◌≡◌, ℕ, ◌+◌, ◌-◌, ◌<◌, ◌≤◌, List, [], ◌∷◌, ◌++◌, length, get_or, drop, map, refl, sym, ap, ap₂, ◌∙◌, arith, append_assoc}
use Rattle.std.proofs.lemmas.List.{drop_more}
use Rattle.rc_play_spec.specs.Menu.{effects_of}
use Rattle.rc_ast.specs.declared.items.Alt.{Alt}
use Rattle.rc_ast.specs.Items.{alt_seen, alts_seen}
use Rattle.rc_code.specs.Instruction.{Block as PureBlock, Instruction as PureInstruction}
use Rattle.rc_code.specs.declared.code.Block.{Block}
use Rattle.rc_code.specs.Compiled.{effects_code, alts_code, blocks_from}
use Rattle.rc_code.specs.Seen.{block_seen}

pub block_more : (blocks : List Block) (block : Block) → map block_seen (blocks ++ block ∷ []) ≡ map block_seen blocks ++ block_seen block ∷ []
block_more [] block = refl
block_more (b ∷ blocks) block = ap (λ rest. block_seen b ∷ rest) (block_more blocks block)

module _ (alts : List Alt) (n : ℕ) (alt : Alt) (within : n < length alts) (is : alt ≡ get_or alts n alt) where
  -- one more of the alternatives
  pub one_alt : (now next first : List PureInstruction) → now ++ alts_code (alts_seen (drop n alts)) ≡ first →
      next ≡ now ++ effects_code (effects_of (alt_seen alt)) → next ++ alts_code (alts_seen (drop (n + 1) alts)) ≡ first
  one_alt now next first kept pushed =
      ap (λ list. list ++ alts_code (alts_seen (drop (n + 1) alts))) pushed
      ∙ append_assoc now (effects_code (effects_of (alt_seen alt))) (alts_code (alts_seen (drop (n + 1) alts)))
      ∙ ap (λ one. now ++ alts_code (alts_seen (one ∷ drop (n + 1) alts))) is
      ∙ ap (λ es. now ++ alts_code (alts_seen es)) (sym (drop_more alts n alt within)) ∙ kept

  -- and one more of the blocks
  pub one_block : (now next first : List PureBlock) (from before after len more : ℕ) → len ≡ before → more ≡ after →
      after ≡ before + length (effects_code (effects_of (alt_seen alt))) → from ≤ before → now ++ blocks_from (before - from) (alts_seen (drop n alts)) ≡ first →
      next ≡ now ++ record { before = len - from; inside = more - from - (len - from) } ∷ [] →
      next ++ blocks_from (after - from) (alts_seen (drop (n + 1) alts)) ≡ first
  one_block now next first from before after len more len_is more_is grown most kept pushed =
      let rest = alts_seen (drop (n + 1) alts) in
      let count = length (effects_code (effects_of (alt_seen alt))) in
      let first_is : len - from ≡ before - from = ap (λ k. k - from) len_is in
      let inside_is : more - from - (len - from) ≡ count = omega (arith, len_is, more_is, grown, most) in
      let after_is : after - from ≡ before - from + count = omega (arith, grown, most) in
      ap (λ list. list ++ blocks_from (after - from) rest) pushed
      ∙ append_assoc now (record { before = len - from; inside = more - from - (len - from) } ∷ []) (blocks_from (after - from) rest)
      ∙ ap₂ (λ b k. now ++ record { before = b; inside = k } ∷ blocks_from (after - from) rest) first_is inside_is
      ∙ ap (λ k. now ++ record { before = before - from; inside = count } ∷ blocks_from k rest) after_is
      ∙ ap (λ one. now ++ blocks_from (before - from) (alts_seen (one ∷ drop (n + 1) alts))) is
      ∙ ap (λ es. now ++ blocks_from (before - from) (alts_seen es)) (sym (drop_more alts n alt within)) ∙ kept

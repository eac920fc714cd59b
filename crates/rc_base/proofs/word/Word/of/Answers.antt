use Rattle.std.proofs.Common.{◌≡◌, ℕ, ◌+◌, ◌-◌, ◌≤◌, List, ◌++◌, length, drop, replicate, IsTrue, length-append, ap, ◌∙◌, arith}
use Rattle.std.specs.List.{list_all}
use Rattle.std.proofs.Math.Seq.{take-append_seam, drop-append_seam}
use Rattle.std.proofs.lemmas.List.{drop-replicate, length-replicate}
use Rattle.rc_base.specs.Token.{is_part}
use Rattle.rc_base.specs.Word.{IsWord}
use Rattle.rc_base.proofs.word.Word.of.Goals as goal

-- bytes written over zeros are a word
IsWord-written : (bytes written : List ℕ) → written ≡ bytes → 1 ≤ length bytes → length bytes ≤ 64 → IsTrue (list_all is_part bytes)
    → IsWord (record { bytes = written ++ drop (length bytes) (replicate 64 0); count = length bytes })
IsWord-written bytes written same some short parts =
    let zeros : List ℕ = replicate (64 - length bytes) 0 in
    let rest : drop {A = ℕ} (length bytes) (replicate 64 0) ≡ zeros = drop-replicate (length bytes) 64 0 in
    rw (same, rest) (record {
      some = some;
      short = short;
      whole = length-append bytes zeros ∙ ap (λ n. length bytes + n) (length-replicate (64 - length bytes) 0) ∙ omega arith;
      parts = rw (take-append_seam bytes zeros) parts;
      zeros = drop-append_seam bytes zeros;
    })

pub invariant_of-result : goal.invariant_of-result
invariant_of-result c =
    IsWord-written c.args.bytes.now c.copy_from_slice.new.self c.copy_from_slice.ensures.after c.requires.some c.requires.short c.requires.parts

-- `tongsvale::tongsvale_cut_all` meets its contract: a head of another length is refused with every area as it was, else the call's answer in numbers.
-- Assumes nothing.
use mathlib.Core.Path.{refl}
use Rattle.trie.specs.Trie.{trie_of}
use Rattle.cut_all.specs.Areas.{work_of}
use Rattle.tongsvale.proofs.Exports.{cut_all_refused, cut_all_by_lem, not_begun}
use Rattle.tongsvale.proofs.tongsvale_cut_all.Goals as goal

pub returns-then-head-ne-HEAD_LENGTH : goal.returns-then-head-ne-HEAD_LENGTH
returns-then-head-ne-HEAD_LENGTH c = let args = c.args in record {
  tokens_value = cut_all_refused _ _ _ _ _ _ c.refused.ensures.0 c.refused.ensures.1 (work_of args.chars.now args.offsets.now) _ _
      c.if-head-ne-HEAD_LENGTH.true;
  unchanged = λ none. (refl, refl);
}

pub returns : goal.returns
returns c = let four = c.if-head-ne-HEAD_LENGTH.false in
    let args = c.args in record {
      tokens_value = cut_all_by_lem _ _ _ _ four _ c.read_head.ensures _ _ _ c.cut_all.result _ c.cut_all.ensures.tokens_value _ _ (c.returned.ensures _).0 (c.returned.ensures _).1;
      unchanged = λ none.
          c.cut_all.ensures.unchanged
          (not_begun args.head.now (trie_of args.roots.now args.slots.now) args.records.now args.logarithms.now four _ c.read_head.ensures
          (work_of args.chars.now args.offsets.now) args.tokens.now args.sentence.now none);
    }

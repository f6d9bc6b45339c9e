-- `tongsvale::tongsvale_cut` meets its contract: a head of another length is refused with every area as it was, else the call's answer in numbers.
-- Assumes nothing.
use mathlib.Core.Path.{refl}
use Rattle.trie.specs.Trie.{trie_of}
use Rattle.cut_sentence.specs.Areas.{work_of, room_of}
use Rattle.tongsvale.proofs.Exports.{cut_refused, cut_by_lem, not_begun}
use Rattle.tongsvale.proofs.tongsvale_cut.Goals as goal

pub returns-then-head-ne-HEAD_LENGTH : goal.returns-then-head-ne-HEAD_LENGTH
returns-then-head-ne-HEAD_LENGTH c = let args =
    c.args in record {
      tokens_value = cut_refused _ _ _ _ _ _ c.refused.ensures.0 c.refused.ensures.1
          (work_of args.chars.now args.offsets.now args.starts.now args.scores.now args.ends.now args.route_records.now) _ _
          c.if-head-ne-HEAD_LENGTH.true (room_of args.edge_ends.now args.edge_records.now);
      unchanged = λ none. (refl, refl, refl, refl, refl, refl, refl, refl);
    }

pub returns : goal.returns
returns c = let four = c.if-head-ne-HEAD_LENGTH.false in
    let args =
    c.args in record {
      tokens_value = cut_by_lem _ _ _ _ four _ c.read_head.ensures _ _ _ c.cut.result _ _ c.cut.ensures.tokens_value _ _ (c.returned.ensures _).0 (c.returned.ensures _).1;
      unchanged = λ none.
          c.cut.ensures.unchanged
          (not_begun args.head.now (trie_of args.roots.now args.slots.now) args.records.now args.logarithms.now four _ c.read_head.ensures
          (work_of args.chars.now args.offsets.now args.starts.now args.scores.now args.ends.now args.route_records.now)
          args.tokens.now args.sentence.now none);
    }

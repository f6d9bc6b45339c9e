-- `tongsvale::tongsvale_tokenize` meets its contract: a head of another length or another mode is refused with every area as it was, else the call's
-- answer in numbers. Assumes nothing.
use mathlib.Core.Path.{refl}
use Rattle.trie.specs.Trie.{trie_of}
use Rattle.cut_sentence.specs.Areas.{work_of, room_of}
use Rattle.tongsvale.proofs.Exports.{tokenize_refused, mode_refused, tokenize_by, not_begun_by}
use Rattle.tongsvale.proofs.tongsvale_tokenize.Goals as goal

pub returns-then-head-ne-HEAD_LENGTH : goal.returns-then-head-ne-HEAD_LENGTH
returns-then-head-ne-HEAD_LENGTH c = let args =
    c.args in record {
      tokens_value = tokenize_refused _ _ _ _ _ _ c.refused.ensures.0 c.refused.ensures.1
          (work_of args.chars.now args.offsets.now args.starts.now args.scores.now args.ends.now args.route_records.now) _ _
          c.if-head-ne-HEAD_LENGTH.true (room_of args.edge_ends.now args.edge_records.now) _;
      unchanged = λ none. (refl, refl, refl, refl, refl, refl, refl, refl);
    }

pub returns-then-mode-gt-SEARCH : goal.returns-then-mode-gt-SEARCH
returns-then-mode-gt-SEARCH c = let args =
    c.args in record {
      tokens_value = mode_refused _ _ _ _ _ _ c.refused-then-mode-gt-SEARCH.ensures.0 c.refused-then-mode-gt-SEARCH.ensures.1
          (work_of args.chars.now args.offsets.now args.starts.now args.scores.now args.ends.now args.route_records.now) _ _
          c.if-head-ne-HEAD_LENGTH.false (room_of args.edge_ends.now args.edge_records.now) _ c.if-mode-gt-SEARCH.true;
      unchanged = λ none. (refl, refl, refl, refl, refl, refl, refl, refl);
    }

pub returns : goal.returns
returns c = let among = c.if-mode-gt-SEARCH.false in
    let four = c.if-head-ne-HEAD_LENGTH.false in
    let args =
    c.args in record {
      tokens_value = tokenize_by _ _ _ _ four _ c.read_head.ensures _ _ _ c.tokenize.result _ _ _ among _ c.mode_of.ensures c.tokenize.ensures.tokens_value _ _
          (c.returned.ensures _).0 (c.returned.ensures _).1;
      unchanged = λ none.
          c.tokenize.ensures.unchanged
          (not_begun_by args.head.now (trie_of args.roots.now args.slots.now) args.records.now args.logarithms.now four _ c.read_head.ensures
          (work_of args.chars.now args.offsets.now args.starts.now args.scores.now args.ends.now args.route_records.now)
          args.tokens.now args.sentence.now _ among none);
    }

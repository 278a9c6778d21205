use Rattle.std.proofs.Common.{◌≡◌, ◌*◌, take, drop}
use Rattle.serde_rdh_words.specs.WordBytes.{word_bytes}
use Rattle.serde_rdh_words.proofs.write_words.Given as goal

-- the words so far, and behind them what was there
abbrev pub invariant-loop-w : goal.invariant-loop-w
invariant-loop-w l = record {
  front : take (8 * l.w) l.out ≡ word_bytes (take l.w l.word-items);
  behind : drop (8 * l.w) l.out ≡ drop (8 * l.w) l.initial.out;
}

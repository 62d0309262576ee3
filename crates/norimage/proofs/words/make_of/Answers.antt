use Rattle.std.proofs.Common.{◌≡◌, ◌∙◌, ◌-◌, ℕ, Some, length, take, drop, sym, ap}
use Rattle.std.proofs.Math.Seq.{take-length}
use Rattle.std.proofs.lemmas.List.{length-drop}
use Rattle.norimage.specs.Words.{byte_of, device_of, word_at}
use Rattle.norimage.proofs.WordLemmas.{made}
use Rattle.norimage.proofs.words.make_of.Goals as goal

pub returns-in-Some-Some-Some : goal.returns-in-Some-Some-Some
returns-in-Some-Some-Some c =
    let words = c.args.words.now in
    let width : byte_of (word_at words 2) ≡ Some c.in-Some-Some-Some.width = cc in
    let device : device_of (word_at words 3) ≡ Some c.in-Some-Some-Some.device = cc in
    let lanes : byte_of (word_at words 4) ≡ Some c.in-Some-Some-Some.lanes = cc in
    let rest : take (length words - 7) (drop 7 words) ≡ drop 7 words = ap (λ (n : ℕ). take n (drop 7 words)) (sym (length-drop 7 words)) ∙ take-length (drop 7 words) in
    made words (byte_of (word_at words 2)) (device_of (word_at words 3)) (byte_of (word_at words 4)) c.word-in-Some-Some-Some.result.now
    c.in-Some-Some-Some.width c.in-Some-Some-Some.device c.in-Some-Some-Some.lanes c.word-in-Some-Some-Some-2.result.now c.word-in-Some-Some-Some-3.result.now
    width device lanes c.word-in-Some-Some-Some.ensures c.word-in-Some-Some-Some-2.ensures c.word-in-Some-Some-Some-3.ensures (take (length words - 7) (drop 7 words)) rest

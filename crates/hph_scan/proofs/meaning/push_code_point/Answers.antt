use Rattle.std.proofs.Common.{◌≡◌, ℕ, ◌+◌, ◌/◌, ◌%◌, List, ◌++◌, ap, sym, ◌∙◌, subst, arith}
use Rattle.std.specs.Prelude.{OnOk}
use Rattle.hph_scan.proofs.Utf8.{two_bytes, three_bytes, four_bytes, second, third, fourth}
use Rattle.hph_scan.proofs.meaning.push_code_point.Goals as goal

pub returns-then-code-lt2048 : goal.returns-then-code-lt2048
returns-then-code-lt2048 c =
    let code = c.args.code in
    let text : List ℕ = c.args.text.now in
    let all = second text c.push-then-code-lt2048.new.self (192 + code / 64) (128 + code % 64) c.continuation.result
    c.in_ok-push.ensures.ok c.continuation.ensures in
    let told = all ∙ ap (λ bytes. text ++ bytes) (sym (two_bytes code (omega arith) (omega arith))) in
    subst (λ all. OnOk c.push-then-code-lt2048-2.result (c.push-then-code-lt2048-2.new.self ≡ all)) told
    c.push-then-code-lt2048-2.ensures.ok

pub returns-then-code-lt65536 : goal.returns-then-code-lt65536
returns-then-code-lt65536 c =
    let code = c.args.code in
    let text : List ℕ = c.args.text.now in
    let all = third text c.push-then-code-lt65536.new.self c.push-then-code-lt65536-2.new.self
    (224 + code / 4096) (128 + code / 64 % 64) (128 + code % 64) c.continuation-then-code-lt65536.result
    c.continuation-then-code-lt65536-2.result
    c.in_ok-push-2.ensures.ok c.continuation-then-code-lt65536.ensures c.in_ok-push-3.ensures.ok
    c.continuation-then-code-lt65536-2.ensures in
    let told = all ∙ ap (λ bytes. text ++ bytes) (sym (three_bytes code (omega arith) (omega arith))) in
    subst (λ all. OnOk c.push-then-code-lt65536-3.result (c.push-then-code-lt65536-3.new.self ≡ all)) told
    c.push-then-code-lt65536-3.ensures.ok

pub returns : goal.returns
returns c =
    let code = c.args.code in
    let text : List ℕ = c.args.text.now in
    let all = fourth text c.push-2.new.self c.push-3.new.self c.push-4.new.self
    (240 + code / 262144) (128 + code / 4096 % 64) (128 + code / 64 % 64) (128 + code % 64)
    c.continuation-2.result c.continuation-3.result c.continuation-4.result
    c.in_ok-push-4.ensures.ok c.continuation-2.ensures c.in_ok-push-5.ensures.ok c.continuation-3.ensures
    c.in_ok-push-6.ensures.ok c.continuation-4.ensures in
    let told = all ∙ ap (λ bytes. text ++ bytes) (sym (four_bytes code (omega arith))) in
    subst (λ all. OnOk c.push-5.result (c.push-5.new.self ≡ all)) told c.push-5.ensures.ok

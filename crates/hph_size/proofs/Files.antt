-- The tokens of a file weigh at most twice as much as its bytes.
use Rattle.std.proofs.Common.{ℕ, ◌*◌, ◌≤◌, List, length, drop, Ok, Err, arith}
use Rattle.hph_ast.specs.declared.token.Token.{Token}
use Rattle.hph_ast.specs.Lexical.{Fault, Next}
use Rattle.hph_ast.specs.Tokens.{State, Reading, Lexes, SpellsTokens, tokens_before}
use Rattle.hph_ast.specs.Tokens as t
use Rattle.hph_size.proofs.Weights.{weights, weights-append}
use Rattle.hph_size.proofs.Places.{Light, light, comes_light}

data LightReading (bs : List ℕ) : Reading → Type 0 where
  fault : {why : Fault × ℕ} → LightReading bs (Err why)
  read : {ts : List Token} → weights ts ≤ 2 * length bs → LightReading bs (Ok ts)

joined : {bs : List ℕ} (next : Next) {r : Reading} → Light bs (Ok next) → LightReading (drop next.len bs) r → LightReading bs (tokens_before next.tokens r)
joined next here fault = fault
joined next (light here) (read {ts = ts} more) = read (omega (arith, weights-append next.tokens ts))

lexes_light : {state : State} {at : ℕ} {bs : List ℕ} {r : Reading} → Lexes state at bs r → LightReading bs r
lexes_light (t.end is) = read (omega arith)
lexes_light (t.open_end is) = fault
lexes_light (t.place {next = next} is more) = joined next (comes_light is) (lexes_light more)
lexes_light (t.fault is) = fault

of_reading : {bs : List ℕ} {ts : List Token} → LightReading bs (Ok ts) → weights ts ≤ 2 * length bs
of_reading (read fits) = fits

pub tokens_are_light : (bytes : List ℕ) (tokens : List Token) → SpellsTokens bytes tokens → weights tokens ≤ 2 * length bytes
tokens_are_light bytes tokens is = of_reading (lexes_light is)

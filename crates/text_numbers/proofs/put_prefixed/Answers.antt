-- `0x`, then the digits.
use Rattle.text.specs.PutLaws.{and_then}
use Rattle.text_numbers.proofs.put_prefixed.Goals as goal

pub returns : goal.returns
returns g c = and_then c.put_bytes-next.ensures c.put_digits.ensures

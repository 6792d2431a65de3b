use Rattle.chunk_scan.proofs.Answering.{scan_is}
use Rattle.chunk_scan.proofs.laws.scan_is_readl.Goals as goal

pub returns : goal.returns
returns c = scan_is

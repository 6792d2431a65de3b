use Rattle.sbpf_text.proofs.MnemonicLaws.{is_mnemonic_found}
use Rattle.sbpf_text.proofs.mnemonic.mnemonic_spelled.Goals as goal

pub returns-clause-formed : goal.returns-clause-formed
returns-clause-formed c = rw c.find_mnemonic.ensures (is_mnemonic_found c.args.word.now)

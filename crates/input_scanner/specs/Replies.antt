-- What a load replies, with the state and the FEE ids that it leaves in the scan (L2).
use Rattle.scan_cdp.specs.Answers.{load_answer}
use Rattle.scan_cdp.specs.Loads.{Loaded}
use Rattle.scan_cdp.specs.Scans.{state_of}
use Rattle.scan_cdp.specs.declared.Part.{Part}
use Rattle.scan_cdp.specs.declared.Scan.{Scan}
use Rattle.input_scanner.specs.declared.Load.{Load}

abbrev pub load_of : Load → Scan → Loaded Part
load_of r scan = record { answer = load_answer r.answer; marks = r.marks; state = state_of scan; fee_ids = scan.fee_ids.now }

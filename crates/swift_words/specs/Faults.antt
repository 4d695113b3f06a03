-- The text of a fault.
use Rattle.std.specs.Prelude.{ℕ, List, codes}
use Rattle.swift_words.specs.declared.fault.WordFault.{WordFault}
use Rattle.swift_words.specs.declared.fault.WordFault.TheVariants.{OutOfMemory, BadEscape, BadUtf8, BadName, BadLimit, BadFormat, NotPath}

abbrev pub fault_text : WordFault → List ℕ
fault_text OutOfMemory = codes "out of memory"
fault_text BadEscape = codes "bad escape"
fault_text BadUtf8 = codes "not UTF-8"
fault_text BadName = codes "bad name"
fault_text BadLimit = codes "bad limit"
fault_text BadFormat = codes "bad format"
fault_text NotPath = codes "not a path"

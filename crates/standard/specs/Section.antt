-- Section 5.2 of 000, "Default definition of OIL objects and standard attributes", for OS, APPMODE, TASK, ISR, COUNTER, ALARM, EVENT and
-- RESOURCE, in its order, as a text of document 01; the comma that is missing before ALARMCALLBACK is put in. Assumes nothing.
use Rattle.std.specs.Prelude.{List, [], ℕ}
use Rattle.token.specs.Words.{bytes_of}
use Rattle.meaning.specs.Syntax.{Spec}
use Rattle.meaning.specs.Reading.{Parsed, parsed, not_parsed, parse}

abbrev pub section : List ℕ
section =
    bytes_of "OIL_VERSION = \"2.5\";\nIMPLEMENTATION Standard {\nOS {\nENUM [STANDARD, EXTENDED] STATUS;\nBOOLEAN STARTUPHOOK;\nBOOLEAN ERRORHOOK;\nBOOLEAN SHUTDOWNHOOK;\nBOOLEAN PRETASKHOOK;\nBOOLEAN POSTTASKHOOK;\nBOOLEAN USEGETSERVICEID;\nBOOLEAN USEPARAMETERACCESS;\nBOOLEAN USERESSCHEDULER = TRUE;\n};\nAPPMODE {\n};\nTASK {\nBOOLEAN [\nTRUE {\nAPPMODE_TYPE APPMODE[];\n},\nFALSE\n] AUTOSTART;\nUINT32 PRIORITY;\nUINT32 ACTIVATION;\nENUM [NON, FULL] SCHEDULE;\nEVENT_TYPE EVENT[];\nRESOURCE_TYPE RESOURCE[];\nMESSAGE_TYPE MESSAGE[];\n};\nISR {\nUINT32 [1, 2] CATEGORY;\nRESOURCE_TYPE RESOURCE[];\nMESSAGE_TYPE MESSAGE[];\n};\nCOUNTER {\nUINT32 MINCYCLE;\nUINT32 MAXALLOWEDVALUE;\nUINT32 TICKSPERBASE;\n};\nALARM {\nCOUNTER_TYPE COUNTER;\nENUM [\nACTIVATETASK {\nTASK_TYPE TASK;\n},\nSETEVENT {\nTASK_TYPE TASK;\nEVENT_TYPE EVENT;\n},\nALARMCALLBACK {\nSTRING ALARMCALLBACKNAME;\n}\n] ACTION;\nBOOLEAN [\nTRUE {\nUINT32 ALARMTIME;\nUINT32 CYCLETIME;\nAPPMODE_TYPE APPMODE[];\n},\nFALSE\n] AUTOSTART;\n};\nEVENT {\nUINT64 WITH_AUTO MASK;\n};\nRESOURCE {\nENUM [\nSTANDARD,\nLINKED {\nRESOURCE_TYPE LINKEDRESOURCE;\n},\nINTERNAL\n] RESOURCEPROPERTY;\n};\n};\nCPU Any {\n};\n"

-- The specs of the text.
unfoldable pub specs_of : Parsed → List Spec
specs_of (parsed f) = f.specs
specs_of (not_parsed n p) = []

unfoldable pub standard : List Spec
standard = specs_of (parse section)

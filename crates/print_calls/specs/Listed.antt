-- What a list of calls shows.
use Rattle.std.specs.{Prelude.List, Prelude.[], Prelude.map, Prelude.false, String.string_bytes}
use Rattle.print_output.specs.OutputCall.{OutputCall, OutputView}
use Rattle.print_calls.specs.declared.{call.Call.Call, call_list.CallList.CallList}
use Rattle.print_calls.specs.declared.call.Call.TheVariants as call

-- a call, with the bytes of its text
abbrev pub call_of : Call → OutputCall
call_of (call.PushStr text) = OutputCall.PushStr (string_bytes text)
call_of call.IndentIfNeeded = OutputCall.IndentIfNeeded
call_of call.IndentStart = OutputCall.IndentStart
call_of call.IndentEnd = OutputCall.IndentEnd
call_of call.Newline = OutputCall.Newline
call_of (call.IndentAndPrint text) = OutputCall.IndentAndPrint (string_bytes text)
call_of (call.Keyword text) = OutputCall.Keyword (string_bytes text)
call_of (call.Ty text kind) = OutputCall.Ty (string_bytes text) kind
call_of (call.Param text) = OutputCall.Param (string_bytes text)
call_of (call.Case text) = OutputCall.Case (string_bytes text)
call_of call.GenericArgsStart = OutputCall.GenericArgsStart
call_of call.GenericArgsEnd = OutputCall.GenericArgsEnd
call_of (call.Doc line) = OutputCall.Doc (string_bytes line)
call_of call.Semicolon = OutputCall.Semicolon
call_of (call.Str text) = OutputCall.Str (string_bytes text)

-- what a list of calls of the code shows
abbrev pub calls_of : List Call → List OutputCall
calls_of calls = map call_of calls

-- whether a line has just begun, and the calls in order
abbrev pub listed : CallList → OutputView (List OutputCall)
listed it = record { line_begun = it.line_begun; kept = calls_of it.calls.items }

-- no call yet, and no line begun
abbrev pub no_calls : OutputView (List OutputCall)
no_calls = record { line_begun = false; kept = [] }

-- The rows, by computing the definitions on the files' bytes.
use Rattle.std.specs.Prelude.{◌≡◌, ◌++◌, None, Some, codes, refl}
use Rattle.std.specs.Int.RustNames.{count_ones}
use Rattle.std.specs.Fmt.{digits, padded_integral, char_count}
use Rattle.std.specs.Str.{is_utf8, chars}
use Rattle.std.specs.Char.{encode_utf8}
use Rattle.std.specs.Str.Lossy.{utf8_valid_len, utf8_lossy}
use Rattle.std.specs.declared.io.ErrorKind.TheVariants.{UnexpectedEof}
use Rattle.pdb_container.specs.Fault.{IoError, UnrecognizedFileFormat}
use Rattle.pdb_container.specs.Container.{front_in, first_words, behind_header, header_in, layout_of, directory_of, stream_pages_in, stream_in, stream}
use Rattle.pdb_container.specs.Fields.{entries_within, c_string_at}
use Rattle.pdb_container.specs.Listing.{listing_within}
use Rattle.pdb_container.specs.Places.{bytes_at, page_places}
use Rattle.pdb_container.specs.StringTable.{names_of, name_in}
use Rattle.pdb_container.specs.RecordFields.{type_index_at, id_index_at, many_at, name_at}
use Rattle.pdb_records.specs.IdRecords.{function_id_at, id_form_behind, id_form_of}
use Rattle.pdb_records.specs.TypeLeaves.{aggregate_at, type_at as plain_type_at, base_at, plain_at, type_form_behind, type_form_of}
use Rattle.pdb_records.specs.TypeRecords.{procedure_at, argument_list_at}
use Rattle.pdb_container_types.specs.Items.{header_at, fitting_header, item_header_of, table_of, item_number, piece_at, items_within, items_from, item_at}
use Rattle.pdb_addresses.specs.Omap.{omap_record_at, omap_of}
use Rattle.pdb_addresses.specs.Sections.{section_header_at}
use Rattle.pdb_symbol_records.specs.Annotations.{with_length_at, with_operand_at, behind_opcode, annotation_or_end, annotations_of}
use Rattle.pdb_symbol_records.specs.Numbers.{compressed_at}
use Rattle.pdb_symbol_records.specs.Records.{symbol_name_at, name_behind, public_of, procedure_symbol_at, inline_site_of, end_form, form_of, symbol_form_of}
use Rattle.pdb_symbol_records.specs.Symbols.{symbol_at, next_within, next, symbols_within, symbols_from}
use Rattle.pdb_subsections.specs.Subsections.{subsection_at}
use Rattle.pdb_lines.specs.Checksums.{file_at, file_in}
use Rattle.pdb_lines.specs.LineMarks.{block_in, block_at}
use Rattle.pdb_lines.specs.LinesSubsections.{lines_subsection_of, program_of}
use Rattle.pdb_lines.specs.InlinedRows.{place_behind, line_behind, last_line_behind, last_column_behind, row_behind, length_by, length_behind, row_of, rows_behind, all_rows}
use Rattle.pdb_lines.specs.Inlinees.{inlinee_at, inlinees_of}
use Rattle.pdb_symbols_modules.specs.ModuleStream.{signed, symbol_list_bytes, line_data_in, line_program_in, subsection_in, inlinees_in}
use Rattle.pdb_symbols_modules.specs.AddressTables.{map_behind, sections_by, original_sections_by, address_map_by}
use Rattle.pdb_symbols_modules.specs.Contributions.{contribution_at, contributions_of}
use Rattle.pdb_symbols_modules.specs.DatabaseCalls.{debug_information, types, ids, global_symbols_by, names}
use Rattle.pdb_symbols_modules.specs.Dbi.{header_of, dbi_of}
use Rattle.pdb_symbols_modules.specs.Information.{information_of, stream_name_at, stream_names_of, number_of}
use Rattle.pdb_symbols_modules.specs.Modules.{module_at}
use Rattle.pdb_symbols_modules.specs.OptionalHeader.{optional_at}
use Rattle.pdb_symbols_modules.specs.Shared.{optional_in, named, named_number, symbols_number, optional_number, shared, module_of_number, info_in, info_from, module_number, module_bytes, provider}
use Rattle.pdb_symbols_modules.specs.Streams.{if_named, streams}
use Rattle.pdb_resolving.specs.Fault.{PdbError}
use Rattle.pdb_module_items.specs.Reading.{type_in, type_at, id_in, id_at}
use Rattle.pdb_names.specs.Ids.{visit_id}
use Rattle.pdb_names.specs.Types.{visit}
use Rattle.pdb_contributions.specs.MergedContributions.{held_by, held_of}
use Rattle.pdb_module_data.specs.Forest.{body_within, body}
use Rattle.pdb_frames.specs.Parts.{parts_of}
use Rattle.pdb_frames.specs.FramesAt.{frames_in_data, row_and_calls, frames_at, frames}
use Rattle.pdb_known_modules.specs.KnownModules.{data_of_stream, extended_of, procedure_calls}
use Rattle.pdb_addr2line.specs.Loading.{tables as tables_read, listed as listed_read, Pdb, load_fault, loaded_with}
use Rattle.pdb_report.specs.AddressText.{answer_text, line_text}
use Rattle.pdb_report.specs.Answer.{answer, answer_named, scope_named}
use Rattle.pdb_engine.specs.InputLines.{report}
use Rattle.pdb_report_tests.specs.Samples as samples

pub elf : load_fault (streams samples.elf) ≡ Some (Pdb (PdbError UnrecognizedFileFormat))
unfolding samples.elf front_in layout_of streams shared loaded_with
elf = refl

pub cut_dbi : load_fault (streams samples.cut_dbi) ≡ Some (Pdb (PdbError (IoError UnexpectedEof)))
unfolding samples.cut_dbi count_ones first_words behind_header header_in front_in layout_of directory_of stream_pages_in stream_in stream bytes_at page_places streams shared debug_information loaded_with
cut_dbi = refl

pub no_lines_loads : load_fault (streams samples.file_f0) ≡ None
unfolding samples.file_f0 count_ones header_of dbi_of debug_information header_at fitting_header item_header_of table_of types ids global_symbols_by entries_within section_header_at sections_by original_sections_by address_map_by optional_at front_in first_words behind_header header_in layout_of bytes_at page_places directory_of stream_pages_in stream_in stream if_named optional_in tables_read listing_within c_string_at module_at listed_read symbol_name_at name_behind type_index_at procedure_symbol_at end_form form_of symbol_form_of symbol_at next_within next symbols_within symbols_from contribution_at contributions_of held_by held_of parts_of names_of names loaded_with named information_of many_at name_in stream_name_at stream_names_of number_of named_number symbols_number optional_number shared streams
no_lines_loads = refl

pub no_lines_answers : report (line_text (answer (streams samples.file_f0))) (codes "1014\n")
    ≡ codes "0x00001014\n  f at ??:?? @??\n"
unfolding samples.file_f0 count_ones header_of dbi_of debug_information header_at fitting_header item_header_of table_of types ids global_symbols_by entries_within section_header_at sections_by original_sections_by address_map_by optional_at front_in first_words behind_header header_in layout_of bytes_at page_places directory_of stream_pages_in stream_in stream if_named optional_in tables_read listing_within c_string_at module_at listed_read symbol_name_at name_behind type_index_at procedure_symbol_at end_form form_of symbol_form_of symbol_at next_within next symbols_within symbols_from contribution_at contributions_of held_by held_of parts_of names_of names loaded_with named information_of many_at name_in stream_name_at stream_names_of number_of named_number symbols_number optional_number shared signed symbol_list_bytes data_of_stream line_data_in program_of line_program_in subsection_in inlinees_of inlinees_in extended_of body_within body procedure_calls frames_in_data row_and_calls frames_at frames answer_text line_text module_of_number info_in info_from module_number module_bytes provider scope_named answer_named streams digits padded_integral char_count chars is_utf8 encode_utf8 utf8_valid_len utf8_lossy
no_lines_answers = refl

pub one_line : report (line_text (answer (streams samples.file_f))) (codes "1014\n")
    ≡ codes "0x00001014\n  f at a.c:5 @0x00001010+8\n"
unfolding samples.file_f count_ones header_of dbi_of debug_information header_at fitting_header item_header_of table_of types ids global_symbols_by entries_within section_header_at sections_by original_sections_by address_map_by optional_at front_in first_words behind_header header_in layout_of bytes_at page_places directory_of stream_pages_in stream_in stream if_named optional_in tables_read listing_within c_string_at module_at listed_read symbol_name_at name_behind type_index_at procedure_symbol_at end_form form_of symbol_form_of symbol_at next_within next symbols_within symbols_from contribution_at contributions_of held_by held_of parts_of names_of names loaded_with named information_of many_at name_in stream_name_at stream_names_of number_of named_number symbols_number optional_number shared signed symbol_list_bytes data_of_stream line_data_in lines_subsection_of subsection_at program_of line_program_in subsection_in inlinees_of inlinees_in extended_of block_in block_at body_within body procedure_calls file_at file_in frames_in_data row_and_calls frames_at frames answer_text line_text module_of_number info_in info_from module_number module_bytes provider scope_named answer_named streams digits padded_integral char_count chars is_utf8 encode_utf8 utf8_valid_len utf8_lossy
one_line = refl

pub nested_sites : report (line_text (answer (streams samples.nested_sites))) (codes "1019\n")
    ≡ codes "0x00001019\n  h() at c.h:9 @0x00001018+4\n  g() at b.h:?? @??\n"
    ++ codes "  f at a.c:7 @0x00001018+24\n"
unfolding samples.nested_sites count_ones header_of dbi_of debug_information header_at fitting_header item_header_of table_of types ids global_symbols_by entries_within section_header_at sections_by original_sections_by address_map_by optional_at front_in first_words behind_header header_in layout_of bytes_at page_places directory_of stream_pages_in stream_in stream if_named optional_in tables_read listing_within c_string_at module_at listed_read symbol_name_at name_behind type_index_at procedure_symbol_at end_form form_of symbol_form_of symbol_at next_within next symbols_within symbols_from contribution_at contributions_of held_by held_of parts_of names_of names loaded_with named information_of many_at name_in stream_name_at stream_names_of number_of named_number symbols_number optional_number shared signed symbol_list_bytes data_of_stream line_data_in lines_subsection_of subsection_at program_of line_program_in subsection_in inlinees_of inlinees_in extended_of block_in block_at body_within body procedure_calls file_at file_in frames_in_data row_and_calls frames_at frames answer_text line_text module_of_number info_in info_from module_number module_bytes provider scope_named answer_named streams digits padded_integral char_count chars is_utf8 encode_utf8 utf8_valid_len utf8_lossy inline_site_of id_index_at compressed_at with_length_at with_operand_at behind_opcode annotation_or_end annotations_of place_behind line_behind last_line_behind last_column_behind row_behind length_by length_behind row_of rows_behind all_rows inlinee_at id_in id_at type_in type_at item_number piece_at items_within items_from item_at id_form_of id_form_behind function_id_at type_form_of type_form_behind plain_type_at base_at plain_at aggregate_at procedure_at argument_list_at name_at visit_id visit
nested_sites = refl

pub public_beside : report (line_text (answer (streams samples.public_beside))) (codes "1036\n")
    ≡ codes "0x00001036\n  ?p@@YAXXZ at a.c:7 @0x00001018+24\n"
unfolding samples.public_beside public_of count_ones header_of dbi_of debug_information header_at fitting_header item_header_of table_of types ids global_symbols_by entries_within section_header_at sections_by original_sections_by address_map_by optional_at front_in first_words behind_header header_in layout_of bytes_at page_places directory_of stream_pages_in stream_in stream if_named optional_in tables_read listing_within c_string_at module_at listed_read symbol_name_at name_behind type_index_at procedure_symbol_at end_form form_of symbol_form_of symbol_at next_within next symbols_within symbols_from contribution_at contributions_of held_by held_of parts_of names_of names loaded_with named information_of many_at name_in stream_name_at stream_names_of number_of named_number symbols_number optional_number shared signed symbol_list_bytes data_of_stream line_data_in lines_subsection_of subsection_at program_of line_program_in subsection_in inlinees_of inlinees_in extended_of block_in block_at body_within body procedure_calls file_at file_in frames_in_data row_and_calls frames_at frames answer_text line_text module_of_number info_in info_from module_number module_bytes provider scope_named answer_named streams digits padded_integral char_count chars is_utf8 encode_utf8 utf8_valid_len utf8_lossy
public_beside = refl

pub moved_code : report (line_text (answer (streams samples.moved_code))) (codes "2004\n2008\n")
    ≡ codes "0x00002004\n  f at a.c:5 @0x00002000+8\n0x00002008\n  ??\n"
unfolding samples.moved_code count_ones header_of dbi_of debug_information header_at fitting_header item_header_of table_of types ids global_symbols_by entries_within section_header_at sections_by original_sections_by address_map_by optional_at omap_record_at omap_of map_behind front_in first_words behind_header header_in layout_of bytes_at page_places directory_of stream_pages_in stream_in stream if_named optional_in tables_read listing_within c_string_at module_at listed_read symbol_name_at name_behind type_index_at procedure_symbol_at end_form form_of symbol_form_of symbol_at next_within next symbols_within symbols_from contribution_at contributions_of held_by held_of parts_of names_of names loaded_with named information_of many_at name_in stream_name_at stream_names_of number_of named_number symbols_number optional_number shared signed symbol_list_bytes data_of_stream line_data_in lines_subsection_of subsection_at program_of line_program_in subsection_in inlinees_of inlinees_in extended_of block_in block_at body_within body procedure_calls file_at file_in frames_in_data row_and_calls frames_at frames answer_text line_text module_of_number info_in info_from module_number module_bytes provider scope_named answer_named streams digits padded_integral char_count chars is_utf8 encode_utf8 utf8_valid_len utf8_lossy
moved_code = refl
